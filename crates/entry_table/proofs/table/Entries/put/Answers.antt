use Rattle.std.proofs.Common.{refl}
use Rattle.entry_table.specs.declared.table.Held.{Held}
use Rattle.entry_table.proofs.KeptLemmas.{lookup-value, is_some-map}
use Rattle.entry_table.proofs.PushLemmas.{IsPut-push}
use Rattle.entry_table.proofs.table.Entries.put.Goals as goal
use Rattle.entry_table.proofs.table.Entries.put.Goals.{in-Ok, in-Err}

pub returns-clause-sound : goal.returns-clause-sound
returns-clause-sound c =
    let held : Held = record { value = c.args.value; stamp = c.args.stamp } in
    let put = IsPut-push c.args.key held c.self.inside.cache c.self.invariant in
    elim c.match-push.branch [
      | in-Ok w ↦ rw w.in-Ok.ensures.entries put.sound
      | in-Err w ↦ rw w.in-Err.ensures.err c.self.invariant
    ]

pub invariant_of-self : goal.invariant_of-self
invariant_of-self c = returns-clause-sound c

pub returns-clause-list : goal.returns-clause-list
returns-clause-list c =
    let held : Held = record { value = c.args.value; stamp = c.args.stamp } in
    let put = IsPut-push c.args.key held c.self.inside.cache c.self.invariant in
    elim c.match-push.branch [
      | in-Ok w ↦ rw (w.result-is, ← c.self.view_is, w.in-Ok.ensures.entries, w.dropped_for.ensures, w.in-Ok.ensures.old) put.list
      | in-Err w ↦ rw w.result-is tt
    ]

pub returns-clause-drops : goal.returns-clause-drops
returns-clause-drops c =
    let held : Held = record { value = c.args.value; stamp = c.args.stamp } in
    let put = IsPut-push c.args.key held c.self.inside.cache c.self.invariant in
    elim c.match-push.branch [
      | in-Ok w ↦ rw (w.result-is, ← c.self.view_is, w.dropped_for.ensures, w.in-Ok.ensures.old) put.drops
      | in-Err w ↦ rw w.result-is tt
    ]

pub returns-clause-there : goal.returns-clause-there
returns-clause-there c =
    elim c.match-push.branch [
      | in-Ok w ↦ rw w.result-is (λ _. refl)
      | in-Err w ↦ rw (w.result-is, ← c.self.view_is, lookup-value c.args.key c.self.inside.cache.entries, is_some-map) w.in-Err.ensures.succeeds
    ]
