use Rattle.std.proofs.Common.{ap, length, sym, ◌∙◌}
use Rattle.std.specs.Prelude.{is_none, ◌||◌}
use Rattle.std.specs.Option.{option_map}
use Rattle.iq_outside.specs.Outside.{lines_with}
use Rattle.door_workers.proofs.StandLemmas.{one-accepted}
use Rattle.door_workers.proofs.attending.Attending.accept.Goals as goal

pub returns-in-Ok-Some-clause-line : goal.returns-in-Ok-Some-clause-line
returns-in-Ok-Some-clause-line g c = λ first most back out stands.
    let old = c.args.self.now.lent.door.now in
    one-accepted first most _ _ c.args.self.now.so_far c.saturating_add-so_far.result back out
    (sym c.is_over.ensures.over ∙ c.if-is_over.false) c.is_over.ensures.small c.saturating_add-so_far.ensures c.ask.ensures.stays_bound
    (c.in-Ok-Some.ensures.counts ∙ ap (λ answer. lines_with answer (g.D.Door.lines old)) c.in-Ok-Some.field-0-is)
    c.in-Ok-Some.ensures.no_fault
    (c.in-Ok-Some.ensures.ends ∙ ap (λ answer. is_none answer || g.D.Door.ended old) c.in-Ok-Some.field-0-is)
    (ap (option_map length) c.ask.ensures.keeps_closed) stands
