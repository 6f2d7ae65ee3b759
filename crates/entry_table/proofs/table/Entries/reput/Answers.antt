use Rattle.std.proofs.Common.{refl, sym, ap, ◌∙◌, option_map}
use Rattle.entry_table.specs.declared.table.Held.{Held}
use Rattle.entry_table.proofs.EntriesLemmas.{replaced-absent, IsSound-replaced}
use Rattle.entry_table.proofs.KeptLemmas.{lookup-value, replaced-shown_all}
use Rattle.entry_table.proofs.table.Entries.reput.Goals as goal

pub returns-in_err-held-clause-list : goal.returns-in_err-held-clause-list
returns-in_err-held-clause-list c =
    let absent = lookup-value c.args.key.now c.self.inside.cache.entries
    ∙ ap (option_map (λ (h : Held). (h.value, h.stamp))) (sym c.in_err-held.ensures.value) in
    rw (← c.self.view_is) (sym (replaced-absent c.args.key.now c.args.value c.args.stamp _ absent))

pub returns-in_err-held-clause-had : goal.returns-in_err-held-clause-had
returns-in_err-held-clause-had c =
    rw (c.from_residual.ensures, ← c.self.view_is, lookup-value c.args.key.now c.self.inside.cache.entries, ← c.in_err-held.ensures.value) refl

pub invariant_of-self-2 : goal.invariant_of-self-2
invariant_of-self-2 c =
    let held : Held = record { value = c.args.value; stamp = c.args.stamp } in
    rw (c.replace-had.ensures.after, ← replaced-shown_all c.args.key.now held _ c.self.invariant.distinct)
    (IsSound-replaced c.args.key.now c.args.value c.args.stamp _ _ c.self.invariant)

pub returns-clause-list : goal.returns-clause-list
returns-clause-list c =
    let held : Held = record { value = c.args.value; stamp = c.args.stamp } in
    rw (← c.self.view_is, c.replace-had.ensures.after) (sym (replaced-shown_all c.args.key.now held _ c.self.invariant.distinct))

pub returns-clause-had : goal.returns-clause-had
returns-clause-had c =
    rw (← c.self.view_is, lookup-value c.args.key.now c.self.inside.cache.entries, ← c.in_ok-held.ensures.value, c.replace-had.ensures.value) refl

pub returns-clause-sound : goal.returns-clause-sound
returns-clause-sound c =
    let held : Held = record { value = c.args.value; stamp = c.args.stamp } in
    rw (c.replace-had.ensures.after, ← replaced-shown_all c.args.key.now held _ c.self.invariant.distinct)
    (IsSound-replaced c.args.key.now c.args.value c.args.stamp _ _ c.self.invariant)
