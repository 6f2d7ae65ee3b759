-- When two grants say the same.
use Rattle.std.proofs.Common.{◌≡◌, true, refl, sym, subst}
use Rattle.std.proofs.lemmas.Bool.{eq-eqb}
use Rattle.rows_model.proofs.SameKey.{same_key-refl}
use Rattle.case_tables.specs.Compatibility.{same_way}
use Rattle.lease_table.specs.Leases.{way_of}
use Rattle.lease_table.specs.declared.records.Mode.{Mode}
use Rattle.lease_table.specs.declared.records.Mode.TheVariants.{Invalidate, Refresh, Delta}
use Rattle.key_shard.specs.Permit.{Permit, same_permit}
use Rattle.session_client.specs.Belongs.{IsRaised}
use Rattle.desk_book.specs.Books.{raised}
use Rattle.desk_book.proofs.ListLemmas.{both}

same_way-refl : (mode : Mode) → same_way (way_of mode) (way_of mode) ≡ true
same_way-refl Invalidate = refl
same_way-refl Refresh = refl
same_way-refl Delta = refl

pub same_permit-refl : (grant : Permit) → same_permit grant grant ≡ true
same_permit-refl grant =
    both _ _ (both _ _ (both _ _ (both _ _ (eq-eqb grant.shard grant.shard refl) (same_key-refl grant.key))
    (eq-eqb grant.sid.number grant.sid.number refl)) (same_way-refl grant.mode)) (eq-eqb grant.token grant.token refl)

pub same_permit-equal : (a b : Permit) → a ≡ b → same_permit a b ≡ true
same_permit-equal a b e = subst (λ p. same_permit a p ≡ true) e (same_permit-refl a)

-- a grant once its quarantine is raised is the one that came back
pub raised-back : (lent back : Permit) → IsRaised lent back → raised lent ≡ back
raised-back lent back h = λ i. record {
  shard = sym h.same_shard i;
  key = sym h.same_key i;
  sid = sym h.same_session i;
  mode = sym h.refreshes i;
  token = sym h.same_token i;
}
