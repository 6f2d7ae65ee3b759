use Rattle.std.proofs.Common.{sym, ◌∙◌}
use Rattle.mc_text.specs.Words.{words_in}
use Rattle.mc_text.specs.declared.plain_commands.PlainCommand.TheVariants.{Decr}
use Rattle.mc_text.proofs.PlainLineLemmas.{counted_plain, counted_query}
use Rattle.mc_text.proofs.plain_lines.decr_of.Goals as goal

pub returns-in_default-clause-none : goal.returns-in_default-clause-none
returns-in_default-clause-none c = λ said noreply h. c.in_default.ensures.none (record { key = h.1.key; by = h.0; noreply = noreply }) h.1.words_are

pub returns-in-Some-2-clause-found : goal.returns-in-Some-2-clause-found
returns-in-Some-2-clause-found c = (
  c.in-Some.counted.by,
  counted_plain (λ by key. Decr key by) (words_in c.args.args.now) c.in-Some.counted c.in-Some-2.key c.in-Some.ensures.found
      (sym c.in-Some-2.is ∙ c.in_ok-key.ensures),
)

pub returns-in-None-clause-found : goal.returns-in-None-clause-found
returns-in-None-clause-found c = (
  c.in-Some.counted.by,
  counted_query (λ by key. Decr key by) (words_in c.args.args.now) c.in-Some.counted c.in-Some.ensures.found
      (sym c.in-None.is ∙ c.in_ok-key.ensures),
)
