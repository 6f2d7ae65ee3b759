-- A map that has on each key what another one has.
use Rattle.std.proofs.Common.{◌≡◌, List, sym, ap, subst, ◌∙◌}
use Rattle.std.specs.Prelude.{Option, IfSome, IsTrue}
use Rattle.std.specs.BTreeMap.{BTreeMap, IsOrdered}
use Rattle.rows_model.specs.declared.keys.QKey.{QKey}
use Rattle.lease_table.specs.declared.records.KeyLeases.{KeyLeases}
use Rattle.lease_table.specs.declared.records.Quar.{Quar}
use Rattle.lease_table.specs.declared.records.ReadLease.{ReadLease}
use Rattle.lease_table.specs.Standing.{key_cmp, quars_of, reads_of, leases_on, has_any, PutsOn}

pub PutsOn-same : (key : QKey) (quars : List Quar) (reads : List ReadLease) (old mid new : BTreeMap QKey KeyLeases) → PutsOn key quars reads old mid
    → ((k : QKey) → leases_on k new ≡ leases_on k mid) → IsOrdered key_cmp new → PutsOn key quars reads old new
PutsOn-same key quars reads old mid new puts same ordered = record {
  quars_there = ap quars_of (same key) ∙ puts.quars_there;
  reads_there = ap reads_of (same key) ∙ puts.reads_there;
  any_there = subst (λ (l : Option KeyLeases). IfSome l (λ leases. IsTrue (has_any leases))) (sym (same key)) puts.any_there;
  elsewhere = λ other differs. same other ∙ puts.elsewhere other differs;
  in_order = ordered;
}
