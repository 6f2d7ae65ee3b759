use Rattle.std.proofs.Common.{codes, refl, ◌∙◌, ap, List, ℕ, ◌++◌}
use Rattle.core_history.specs.Lines.{line_of, sweep_words, swept_words}
use Rattle.core_history.specs.Words.{spaced}
use Rattle.core_history.proofs.LineLemmas.{line_pushed}
use Rattle.core_history.proofs.sweep_lines.sweep_line.Goals as goal

pub returns : goal.returns
unfolding line_of
returns c shard made =
    let asked = sweep_words c.args.request in (
      line_pushed (codes "sweep") asked (swept_words c.args.reply) c.push_wanted.new.text.items c.push_swept.new.text.items c.push.new.self.items
          (c.in_ok-push_wanted.ensures ∙ ap (λ (l : List ℕ). l ++ spaced asked) c.in_ok-line.ensures.items)
          c.in_ok-push_swept.ensures c.in_ok-push.ensures.items,
      refl,
    )
