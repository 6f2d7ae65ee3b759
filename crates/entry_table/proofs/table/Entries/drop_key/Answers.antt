use Rattle.std.proofs.Common.{sym}
use Rattle.entry_table.proofs.KeptLemmas.{lookup-value, is_some-map, without-shown_all}
use Rattle.entry_table.proofs.EntriesLemmas.{IsSound-without}
use Rattle.entry_table.proofs.table.Entries.drop_key.Goals as goal

pub invariant_of-self : goal.invariant_of-self
invariant_of-self c =
    rw (c.pop.ensures.entries, ← without-shown_all c.args.key.now _ c.self.invariant.distinct) (IsSound-without c.args.key.now _ _ c.self.invariant)

pub returns-clause-list : goal.returns-clause-list
returns-clause-list c =
    rw (← c.self.view_is, c.pop.ensures.entries) (sym (without-shown_all c.args.key.now _ c.self.invariant.distinct))

pub returns-clause-had : goal.returns-clause-had
returns-clause-had c =
    rw (← c.self.view_is, lookup-value c.args.key.now c.self.inside.cache.entries, ← c.pop.ensures.value, is_some-map, c.is_some.ensures) ((λ h. h), (λ h. h))

pub returns-clause-sound : goal.returns-clause-sound
returns-clause-sound c =
    rw (c.pop.ensures.entries, ← without-shown_all c.args.key.now _ c.self.invariant.distinct) (IsSound-without c.args.key.now _ _ c.self.invariant)
