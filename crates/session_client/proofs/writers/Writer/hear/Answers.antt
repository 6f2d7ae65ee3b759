use Rattle.std.proofs.Common.{refl, sym, ◌∙◌}
use Rattle.session_client.specs.Wants.{Writing}
use Rattle.session_client.specs.Writers.{then_as}
use Rattle.session_client.proofs.HandLemmas.{with_fact}
use Rattle.session_client.proofs.writers.Writer.hear.Goals as goal

pub invariant_of-self : goal.invariant_of-self
invariant_of-self c = (c.stage_after_commit-stage.ensures.as_long ∙ c.self.invariant.0, c.stage_after_commit-stage.ensures.room c.self.inside.next c.self.inside.keys.items, c.self.invariant.2)

pub next_stage-requires : goal.next_stage-requires
next_stage-requires c =
    let (who, changes, awaits) = c.requires in
    let held = rw (← c.replace.ensures.value) at c.self.invariant.1 in
    let awaited = rw (← c.self.view_is, ← c.replace.ensures.value) at awaits in
    let writing : Writing = record { mode = c.self.inside.mode; keys = c.self.inside.keys.items; txn = changes; next = then_as c.self.inside.next } in
    rw c.deref.ensures.value (record { as_long = c.self.invariant.0; room = held; apart = c.in_default.not-Committing; awaits = (who, writing, refl, c.self.invariant.2, awaited) })

pub returns-in-Committing-clause-follows : goal.returns-in-Committing-clause-follows
returns-in-Committing-clause-follows c = λ who changes short heard awaits follows.
    let awaited = rw (← c.self.view_is, ← c.replace.ensures.value, c.in-Committing.is, ← c.self.invariant.0) at awaits in
    let f = rw (← c.self.view_is, ← c.replace.ensures.value, c.in-Committing.is) at follows in
    let writing : Writing = record { mode = c.self.inside.mode; keys = c.self.inside.keys.items; txn = changes; next = then_as c.self.inside.next } in
    let h = c.stage_after_commit-stage.ensures.follows writing short heard awaited f.0 f.1 in
    let given = c.stage_after_commit-stage.ensures.given ∙ f.0 ∙ sym (c.stage_after_commit-stage.ensures.granted heard) in
    with_fact _ _ _ _ given h
