-- A lease to read whose deadline has come, and the void set that drops it.
use Rattle.std.proofs.Common.{◌≡◌, ℕ, ◌<◌, ◌≤◌, Bool, true, false, cond, List, [], ◌∷◌, Option, Some, None, refl, sym, ap, subst, ◌∙◌, arith, IfSome}
use Rattle.std.specs.Prelude.{◌==◌, ◌&&◌, nat_le, nat_lt, MatchBool}
use Rattle.std.proofs.lemmas.Bool.{le-ltb, eq-eqb, and_from}
use Rattle.rows_model.specs.declared.keys.QKey.{QKey}
use Rattle.rows_model.specs.Key.{same_key}
use Rattle.rows_model.proofs.SameKey.{same_key-true}
use Rattle.lease_table.specs.declared.records.Lapse.{Lapse}
use Rattle.lease_table.specs.declared.records.Lease.{Lease}
use Rattle.lease_table.specs.declared.records.ReadLease.{ReadLease}
use Rattle.lease_table.specs.Lapses.{is_lapsed, unlapsed, HasLapsed}
use Rattle.lease_table.specs.Leases as leases
use Rattle.lease_table.specs.Leases.{is_current, Leaves}
use Rattle.entry_table.specs.Entries.{Item}
use Rattle.key_shard.specs.declared.steps.Step.{Step}
use Rattle.key_shard.specs.declared.steps.Step.TheVariants as step
use Rattle.key_shard.specs.Past.{Terms, recorded, evicts, next_token, deadline_at}
use Rattle.key_shard.specs.Answers.{Request, Get, Set, Quarantine, Release, Replace, Raise, Renew, Answers, IsAtHome, IsLegalPast, key_of, step_of}
use Rattle.key_shard.specs.Kept.{Ties}
use Rattle.key_shard.proofs.CaseLemmas.{got_cases, set_cases, verdict_cases, release_cases, replace_cases, raise_cases, renew_cases}
use Rattle.key_shard.proofs.TiesLemmas.{quars-kept, reads-set}

-- ---- the key of a lease that is recorded is the shard's

no_lease : (lease : ReadLease) → None ≡ Some lease → ⊥
no_lease lease e = cc

from_cond : (G : Type 0) (b : Bool) (new old : Option ReadLease) → (b ≡ true → (l : ReadLease) → new ≡ Some l → G)
    → ((l : ReadLease) → old ≡ Some l → G) → (l : ReadLease) → cond b new old ≡ Some l → G
from_cond G true new old f g l e = f refl l e
from_cond G false new old f g l e = g l e

home_step : (terms : Terms) (past : List Step) (s : Step) (key : QKey) → Answers terms past s
    → ((l : ReadLease) → recorded key past ≡ Some l → IsAtHome terms key)
    → (l : ReadLease) → recorded key (s ∷ past) ≡ Some l → IsAtHome terms key
home_step terms past s key a before = subst P (sym a.answer) (by a.request a.at_home)
  where
    P : Step → Type 0
    P x = (l : ReadLease) → recorded key (x ∷ past) ≡ Some l → IsAtHome terms key

    ended : (on : QKey) → (l : ReadLease) → cond (same_key key on) None (recorded key past) ≡ Some l → IsAtHome terms key
    ended on = from_cond (IsAtHome terms key) (same_key key on) None (recorded key past) (λ _ l e. absurd (no_lease l e)) before

    by : (request : Request) → IsAtHome terms (key_of request) → P (step_of terms past request)
    by (Get on who floor now) home =
        got_cases P terms past on who floor now (λ value stamp _. before) before (λ stands. before)
        (λ none. from_cond (IsAtHome terms key) (same_key key on)
        (Some (record { sid = who; token = next_token terms past; deadline = deadline_at terms now })) (recorded key past)
        (λ same l e. subst (IsAtHome terms) (sym (same_key-true key on same)) home) before)
    by (Set on token value stamp now) home =
        set_cases P terms past on token value stamp now (λ _. ended on)
        (λ _. from_cond (IsAtHome terms key) (same_key key on) (unlapsed token now (recorded key past)) (recorded key past)
        (λ _. from_cond (IsAtHome terms key) (is_lapsed token now (recorded key past)) None (recorded key past)
        (λ _ l e. absurd (no_lease l e)) before) before)
    by (Quarantine on who mode shift now) home =
        verdict_cases P terms past on who mode shift now (λ none join. ended on) (λ _ _. before) (λ quar _. before)
    by (Release permit how) home = release_cases P past permit how (λ quar _. before) (λ _. before)
    by (Replace permit value stamp) home = replace_cases P terms past permit value stamp (λ quar _. before) (λ _. before)
    by (Raise permit) home = raise_cases P past permit (λ _. before) (λ other _. before) before
    by (Renew permit now) home = renew_cases P terms past permit now (λ _ _. before) (λ _. before)

pub recorded-home : (terms : Terms) (past : List Step) → IsLegalPast terms past → (key : QKey) (lease : ReadLease) → recorded key past ≡ Some lease → IsAtHome terms key
recorded-home terms [] legal key lease e = absurd (no_lease lease e)
recorded-home terms (s ∷ past) legal key lease e =
    home_step terms past s key legal.0 (recorded-home terms past legal.1 key) lease e

-- ---- the void set

-- a lease whose deadline has come is not current
pub not-current : (token now : ℕ) (lease : ReadLease) → lease.deadline ≤ now → is_current token now (Some lease) ≡ false
not-current token now lease come =
    ap (λ b. (lease.token == token) && b) (le-ltb now lease.deadline come) ∙ none_of (lease.token == token)
  where
    none_of : (b : Bool) → (b && false) ≡ false
    none_of true = refl
    none_of false = refl

-- it answers a set under the lease's token, whatever the value is
pub void-answers : (terms : Terms) (past : List Step) (now : ℕ) (lapse : Lapse) → IsLegalPast terms past
    → HasLapsed now (λ key. recorded key past) lapse → Answers terms past (step.Void lapse.key lapse.token now)
void-answers terms past now lapse legal has =
    let come : has.lease.deadline ≤ now = let its = has.its_deadline in let due = has.has_come in omega (arith, its, due) in
    let not : is_current lapse.token now (recorded lapse.key past) ≡ false =
    ap (is_current lapse.token now) has.is_recorded ∙ not-current lapse.token now has.lease come in
    record {
      request = Set lapse.key lapse.token [] 0 now;
      at_home = recorded-home terms past legal lapse.key has.lease has.is_recorded;
      owed = tt;
      answer = sym (ap (λ b. cond b (step.Stored lapse.key lapse.token now [] 0 (evicts terms lapse.key past))
          (step.Void lapse.key lapse.token now)) not);
    }

-- what a shard holds stays tied to its past
pub Ties-void : (terms : Terms) (past : List Step) (list : List Item) (table new : List Lease) (next : ℕ) (key : QKey) (token now : ℕ) (lapsed : Bool)
    → lapsed ≡ is_lapsed token now (leases.recorded key table) → MatchBool lapsed (Leaves key None (leases.quars key table) table new) (new ≡ table)
    → Answers terms past (step.Void key token now) → Ties terms past list table next → Ties terms (step.Void key token now ∷ past) list new next
Ties-void terms past list table new next key token now true is leaves a h = record {
  entries = h.entries;
  in_order = h.in_order;
  sound = h.sound;
  quars = quars-kept h key None new leaves;
  reads = λ k. reads-set h key None (leases.quars key table) new leaves k ∙ by k (same_key k key) refl;
  counted = omega (arith, h.counted);
  below = h.below;
  legal = (a, h.legal);
}
  where
    by : (k : QKey) (b : Bool) → same_key k key ≡ b → cond b None (recorded k past) ≡ cond b (unlapsed token now (recorded k past)) (recorded k past)
    by k true same =
        let there : is_lapsed token now (recorded k past) ≡ true =
        ap (λ x. is_lapsed token now (recorded x past)) (same_key-true k key same) ∙ sym (ap (is_lapsed token now) (h.reads key)) ∙ sym is in
        sym (ap (λ b. cond b None (recorded k past)) there)
    by k false apart = refl
Ties-void terms past list table new next key token now false is same a h = record {
  entries = h.entries;
  in_order = h.in_order;
  sound = h.sound;
  quars = λ k. ap (leases.quars k) same ∙ h.quars k;
  reads = λ k. ap (leases.recorded k) same ∙ h.reads k ∙ by k (same_key k key) refl;
  counted = omega (arith, h.counted);
  below = h.below;
  legal = (a, h.legal);
}
  where
    by : (k : QKey) (b : Bool) → same_key k key ≡ b → recorded k past ≡ cond b (unlapsed token now (recorded k past)) (recorded k past)
    by k true at =
        let there : is_lapsed token now (recorded k past) ≡ false =
        ap (λ x. is_lapsed token now (recorded x past)) (same_key-true k key at) ∙ sym (ap (is_lapsed token now) (h.reads key)) ∙ sym is in
        sym (ap (λ b. cond b None (recorded k past)) there)
    by k false apart = refl
