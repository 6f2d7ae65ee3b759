-- What a raise finds: whose quarantines stand on the key, and which session is to raise.
use Rattle.std.proofs.Common.{ℕ, ◌≡◌, Bool, true, false, not, cond, ◌&&◌, ◌||◌, List, [], ◌∷◌, map, Option, Some, None, option_map, slice_get, refl, sym, ap}
use Rattle.std.proofs.Common.{◌∙◌, inl, inr, ◌⊎◌}
use Rattle.std.specs.List.{list_any}
use Rattle.std.specs.Prelude.{count_by}
use Rattle.std.proofs.lemmas.Bool.{false≢true, eqb-true}
use Rattle.rows_model.specs.declared.keys.QKey.{QKey}
use Rattle.rows_model.specs.declared.keys.Sid.{Sid}
use Rattle.rows_model.specs.declared.changes.Change.{Change}
use Rattle.case_tables.specs.Compatibility.{Way, invalidate, refresh, delta, raise_verdict}
use Rattle.case_tables.specs.declared.grids.Verdict.{Verdict}
use Rattle.case_tables.specs.declared.grids.Verdict.TheVariants as verdicts
use Rattle.lease_table.specs.declared.records.Mode.{Mode}
use Rattle.lease_table.specs.declared.records.Mode.TheVariants.{Invalidate, Refresh, Delta}
use Rattle.lease_table.specs.declared.records.Quar.{Quar}
use Rattle.lease_table.specs.Leases.{way_of, is_of, has_token, own_in, others_in, is_raisable, raise_in}
use Rattle.key_shard.specs.Permit.{Permit}
use Rattle.key_shard.specs.LegalStands.{AllStandBeside}
use Rattle.key_shard.specs.declared.replies.Got.{Got}
use Rattle.key_shard.specs.declared.replies.Got.TheVariants as got
use Rattle.key_shard.specs.declared.replies.QAnswer.TheVariants as quarantine
use Rattle.session_client.specs.declared.plans.Plan.{Plan}
use Rattle.session_client.specs.declared.plans.Plan.TheVariants.{Read, Write, Look, Quit, Skip, Raise, Renew}
use Rattle.session_client.specs.declared.replies.Reply.{Reply}
use Rattle.session_client.specs.declared.replies.Reply.TheVariants as Reply
use Rattle.session_client.specs.declared.replies.Wanted.TheVariants as wanted
use Rattle.session_client.specs.Plans.{mode_of, mode_on}
use Rattle.session_client.specs.Wants.{Writing, Then, Commits, Looks, Quits, Raises, Renews, then_of, granted, turned, is_had, has_all, write_wants}
use Rattle.session_client.specs.Wants.{quarantine_as, quarantine_or_then, quarantine_next, then_wants, look_after, after_fault, renew_or_commit}
use Rattle.core_history.proofs.ListLemmas.{and_elim}
use Rattle.core_history.proofs.SessionLemmas.{is_going, raises_last}

-- a quarantine may be raised only where no other session's stands beside it
raised-alone : (own : Option Way) (others : List Way) → raise_verdict own others ≡ verdicts.Raise → others ≡ []
raised-alone None others e = cc
raised-alone (Some invalidate) [] e = refl
raised-alone (Some invalidate) (w ∷ ws) e = cc
raised-alone (Some refresh) others e = cc
raised-alone (Some delta) others e = cc

map_none : (quars : List Quar) → map (λ quar. way_of quar.mode) quars ≡ [] → quars ≡ []
map_none [] e = refl
map_none (quar ∷ quars) e = absurd cc

raise-others : (who : Sid) (token : ℕ) (quars : List Quar) → raise_in who token quars ≡ verdicts.Raise → others_in who quars ≡ []
raise-others who token quars = by (list_any (is_raisable who token) quars)
  where
    by : (b : Bool) → cond b (raise_verdict (option_map (λ quar. way_of quar.mode) (own_in who quars)) (map (λ quar. way_of quar.mode) (others_in who quars)))
        verdicts.Gone ≡ verdicts.Raise → others_in who quars ≡ []
    by true e = map_none (others_in who quars) (raised-alone _ _ e)
    by false e = cc

others-none : (who : Sid) (quar : Quar) (quars : List Quar) → others_in who (quar ∷ quars) ≡ [] → (is_of who quar ≡ true) × (others_in who quars ≡ [])
others-none who quar quars = by (is_of who quar) refl
  where
    by : (b : Bool) → is_of who quar ≡ b → cond (not b) (quar ∷ others_in who quars) (others_in who quars) ≡ []
        → (is_of who quar ≡ true) × (others_in who quars ≡ [])
    by true e none = (e, none)
    by false e none = absurd cc

-- the quarantine that is raised is the only one on its key, and is its session's
pub record OnlyOne (who : Sid) (token : ℕ) (quars : List Quar) : Type 0 where
  pub quar : Quar
  pub only : quars ≡ quar ∷ []
  pub own : quar.sid ≡ who
  pub its : quar.token ≡ token

pub only-raised : (who : Sid) (token : ℕ) (quars : List Quar) → AllStandBeside quars → raise_in who token quars ≡ verdicts.Raise → OnlyOne who token quars
only-raised who token [] beside e = absurd cc
only-raised who token (quar ∷ []) beside e = by (is_raisable who token quar) refl
  where
    V : Verdict
    V = raise_verdict (option_map (λ q. way_of q.mode) (own_in who (quar ∷ []))) (map (λ q. way_of q.mode) (others_in who (quar ∷ [])))

    by : (b : Bool) → is_raisable who token quar ≡ b → OnlyOne who token (quar ∷ [])
    by true is =
        let parts = and_elim (is_of who quar) (has_token token quar && _) is in
        record {
          quar = quar;
          only = refl;
          own = ap (λ (n : ℕ). record { number = n }) (eqb-true quar.sid.number who.number parts.0);
          its = eqb-true quar.token token (and_elim (has_token token quar) _ parts.1).0;
        }
    by false is = let clash : verdicts.Gone ≡ verdicts.Raise = sym (ap (λ b. cond (b || false) V verdicts.Gone) is) ∙ e in absurd cc
only-raised who token (one ∷ two ∷ quars) beside e =
    let none = raise-others who token (one ∷ two ∷ quars) e in
    let first = others-none who one (two ∷ quars) none in
    let second = others-none who two quars first.1 in
    absurd (beside.0.0.of_two (eqb-true one.sid.number who.number first.0 ∙ sym (eqb-true two.sid.number who.number second.0)))

-- a plan to raise is one in mode invalidate
pub raises-mode : (plan : Plan) → then_of plan ≡ Raises → mode_of plan ≡ Invalidate
raises-mode (Raise txn) e = refl
raises-mode (Read key floor) e = refl
raises-mode (Skip key txn) e = refl
raises-mode (Write mode txn) e = absurd cc
raises-mode (Look mode key txn) e = absurd cc
raises-mode (Quit mode txn) e = absurd cc
raises-mode (Renew mode txn) e = absurd cc

-- a session is to raise by its plan, or after a raise
asks-head : (mode : Mode) (key : QKey) (txn : List Change) (grant : Permit) → quarantine_as mode key txn ≡ wanted.Raise grant → ⊥
asks-head Invalidate key txn grant e = cc
asks-head Refresh key txn grant e = cc
asks-head Delta key txn grant e = cc

renews-head : (writing : Writing) (heard : List Reply) (grant : Permit) (o : Option Permit) → renew_or_commit writing heard o ≡ wanted.Raise grant → ⊥
renews-head writing heard grant (Some other) e = cc
renews-head writing heard grant None e = cc

then-head : (writing : Writing) (heard : List Reply) (grant : Permit) (next : Then) → then_wants next writing heard ≡ wanted.Raise grant → next ≡ Raises
then-head writing heard grant Commits e = absurd cc
then-head writing heard grant (Looks key) e = absurd cc
then-head writing heard grant Quits e = absurd cc
then-head writing heard grant Raises e = refl
then-head writing heard grant Renews e = absurd (renews-head writing heard grant (slice_get (granted heard) (turned heard)) e)

next-head : (writing : Writing) (heard : List Reply) (grant : Permit) → quarantine_next writing heard ≡ wanted.Raise grant → writing.next ≡ Raises
next-head writing heard grant = by (slice_get writing.keys (count_by is_had heard))
  where
    by : (o : Option QKey) → quarantine_or_then writing heard o ≡ wanted.Raise grant → writing.next ≡ Raises
    by (Some key) e = absurd (asks-head (mode_on writing.mode key) key writing.txn grant e)
    by None e = then-head writing heard grant writing.next e

look-head : (writing : Writing) (heard : List Reply) (grant : Permit) (next : Then) (found : Got) → look_after next writing found heard ≡ wanted.Raise grant → ⊥
look-head writing heard grant (Looks key) got.Own e = cc
look-head writing heard grant (Looks key) (got.Hit value stamp) e = cc
look-head writing heard grant (Looks key) (got.Lease token) e = cc
look-head writing heard grant (Looks key) (got.Again stands) e = cc
look-head writing heard grant Commits found e = cc
look-head writing heard grant Quits found e = cc
look-head writing heard grant Raises found e = cc
look-head writing heard grant Renews found e = cc

fault-head : (writing : Writing) (heard : List Reply) (grant : Permit) (b : Bool) → after_fault b writing heard ≡ wanted.Raise grant → ⊥
fault-head writing heard grant true e = cc
fault-head writing heard grant false e = cc

pub raise-head : (writing : Writing) (heard : List Reply) (grant : Permit) → is_going heard ≡ true → write_wants writing false heard ≡ wanted.Raise grant
    → (raises_last heard ≡ true) ⊎ (writing.next ≡ Raises)
raise-head writing [] grant going e = inr (next-head writing [] grant e)
raise-head writing (Reply.Quar (quarantine.Granted given old) ∷ heard) grant going e =
    inr (next-head writing (Reply.Quar (quarantine.Granted given old) ∷ heard) grant e)
raise-head writing (Reply.Quar quarantine.Held ∷ heard) grant going e = inr (next-head writing (Reply.Quar quarantine.Held ∷ heard) grant e)
raise-head writing (Reply.Quar (quarantine.Refused holder held) ∷ heard) grant going e = absurd cc
raise-head writing (Reply.Raise answer ∷ heard) grant going e = inl refl
raise-head writing (Reply.RaiseBack back ∷ heard) grant going e = inl refl
raise-head writing (Reply.Renew back answer ∷ heard) grant going e =
    absurd (renews-head writing (Reply.Renew back answer ∷ heard) grant
    (slice_get (granted (Reply.Renew back answer ∷ heard)) (turned (Reply.Renew back answer ∷ heard))) e)
raise-head writing (Reply.Fault fault ∷ heard) grant going e = absurd (fault-head writing heard grant (has_all writing heard) e)
raise-head writing (Reply.Got found ∷ heard) grant going e = absurd (look-head writing heard grant writing.next found e)
raise-head writing (Reply.Staged value txn ∷ heard) grant going e = absurd cc
raise-head writing (Reply.NotStaged fault txn ∷ heard) grant going e = absurd cc
raise-head writing (Reply.NotCommitted fault txn grants ∷ heard) grant going e = absurd cc
raise-head writing (Reply.Answer answer ∷ heard) grant going e = absurd cc
raise-head writing (Reply.Set answer ∷ heard) grant going e = absurd cc
raise-head writing (Reply.Committed number txn grants ∷ heard) grant going e = absurd (false≢true going)
raise-head writing (Reply.End was ∷ heard) grant going e = absurd (false≢true going)
raise-head writing (Reply.Rel answer ∷ heard) grant going e = absurd (false≢true going)
raise-head writing (Reply.SarBack back ∷ heard) grant going e = absurd (false≢true going)
raise-head writing (Reply.Nothing ∷ heard) grant going e = absurd (false≢true going)
