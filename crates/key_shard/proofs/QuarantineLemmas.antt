-- What a request for a quarantine gives, by the verdict on it.
use Rattle.std.proofs.Common.{◌≡◌, ℕ, Bool, true, false, cond, List, [], ◌∷◌, map, filter, not, Option, Some, None, is_some, option_map}
use Rattle.std.proofs.Common.{refl, sym, ap, subst, ◌∙◌, ◌⊎◌, inl, inr}
use Rattle.std.specs.Prelude.{ℤ, Result}
use Rattle.std.specs.Option.{option_or}
use Rattle.std.proofs.lemmas.Bool.{eq-eqb}
use Rattle.rows_model.specs.declared.keys.QKey.{QKey}
use Rattle.rows_model.specs.declared.keys.Sid.{Sid}
use Rattle.rows_model.specs.Placement.{shard_of}
use Rattle.case_tables.specs.Compatibility.{Way, is_given, quarantine_verdict, verdict, quarantine}
use Rattle.case_tables.specs.declared.grids.Verdict.{Verdict}
use Rattle.case_tables.specs.declared.grids.Verdict.TheVariants.{Give, Wait, Void, Join, Same, Own, Refuse, Raise, Gone}
use Rattle.lease_table.specs.declared.records.Lease.{Lease}
use Rattle.lease_table.specs.declared.records.Mode.{Mode}
use Rattle.lease_table.specs.declared.records.Quar.{Quar}
use Rattle.lease_table.specs.Leases as leases
use Rattle.lease_table.specs.Leases.{way_of, is_of, first, holder_in}
use Rattle.entry_table.specs.Entries.{Item}
use Rattle.key_shard.specs.declared.replies.ShardFault.{ShardFault}
use Rattle.key_shard.specs.declared.replies.ShardFault.TheVariants as faults
use Rattle.key_shard.specs.declared.steps.Step.{Step}
use Rattle.key_shard.specs.declared.steps.Step.TheVariants.{Granted}
use Rattle.key_shard.specs.Past.{Terms, standing, own_of, seen_by, holder_of, next_token, deadline_at}
use Rattle.key_shard.specs.Answers.{quarantine_by, quarantine_step, IsAtHome}
use Rattle.key_shard.specs.Shards.{ShardView, past_of, refusal, spent_at, Refuses}
use Rattle.key_shard.specs.Kept.{Ties}
use Rattle.key_shard.proofs.LookLemmas.{holding-seen}

-- these verdicts give a quarantine
pub given-one : (v : Verdict) → (v ≡ Give) ⊎ ((v ≡ Void) ⊎ (v ≡ Join)) → is_given v ≡ true
given-one v (inl e) = rw e refl
given-one v (inr (inl e)) = rw e refl
given-one v (inr (inr e)) = rw e refl

-- where a quarantine is refused, one stands in the way
refused-some : (w : Way) (own : Option Way) (others : List Way) (reading : Bool)
    → quarantine_verdict w own others reading ≡ Refuse → own ≡ None → others ≡ [] → ⊥
refused-some w (Some o) others reading refuse none nothing = cc
refused-some w None [] true refuse none nothing = cc
refused-some w None [] false refuse none nothing = cc
refused-some w None (o ∷ os) reading refuse none nothing = cc

-- the verdict as the past tells it
pub judged : {terms : Terms} {past : List Step} {list : List Item} {table : List Lease} {next : ℕ} → Ties terms past list table next
    → (key : QKey) (who : Sid) (mode : Mode) (now : ℕ) (v : Verdict)
    → v ≡ verdict (leases.holding key who now table) (quarantine (way_of mode)) → verdict (seen_by key who now past) (quarantine (way_of mode)) ≡ v
judged h key who mode now v e =
    sym (e ∙ ap (λ holding. verdict holding (quarantine (way_of mode))) (holding-seen h key who now))

given-by : (terms : Terms) (past : List Step) (key : QKey) (who : Sid) (mode : Mode) (shift : ℤ) (now : ℕ) (v : Verdict)
    → is_given v ≡ true → quarantine_by terms past key who mode shift now v ≡ Granted key who mode shift now (next_token terms past) (deadline_at terms now)
given-by terms past key who mode shift now Give given = refl
given-by terms past key who mode shift now Void given = refl
given-by terms past key who mode shift now Join given = refl
given-by terms past key who mode shift now Wait given = cc
given-by terms past key who mode shift now Same given = cc
given-by terms past key who mode shift now Own given = cc
given-by terms past key who mode shift now Refuse given = cc
given-by terms past key who mode shift now Raise given = cc
given-by terms past key who mode shift now Gone given = cc

pub step-granted : (terms : Terms) (past : List Step) (key : QKey) (who : Sid) (mode : Mode) (shift : ℤ) (now : ℕ)
    → is_given (verdict (seen_by key who now past) (quarantine (way_of mode))) ≡ true
    → quarantine_step terms past key who mode shift now ≡ Granted key who mode shift now (next_token terms past) (deadline_at terms now)
step-granted terms past key who mode shift now given =
    given-by terms past key who mode shift now (verdict (seen_by key who now past) (quarantine (way_of mode))) given

-- who holds a key: as the past and as the table of leases tell it
pub holder-found : {terms : Terms} {past : List Step} {list : List Item} {table : List Lease} {next : ℕ}
    → Ties terms past list table next → (key : QKey) (who : Sid) → holder_in who (leases.quars key table) ≡ holder_of key who past
holder-found h key who = ap (holder_in who) (h.quars key)

some-first : (quars : List Quar) → (quars ≡ [] → ⊥) → is_some (first quars) ≡ true
some-first [] h = absurd (h refl)
some-first (q ∷ qs) h = refl

some-holder : (own : Option Quar) (quars : List Quar) → (option_map (λ quar. way_of quar.mode) own ≡ None → quars ≡ [] → ⊥)
    → is_some (option_or own (first quars)) ≡ true
some-holder (Some q) quars h = refl
some-holder None quars h = some-first quars (h refl)

pub holder-some : (key : QKey) (who : Sid) (mode : Mode) (now : ℕ) (past : List Step)
    → verdict (seen_by key who now past) (quarantine (way_of mode)) ≡ Refuse → is_some (holder_of key who past) ≡ true
holder-some key who mode now past refuse =
    let seen = seen_by key who now past in
    some-holder (own_of key who past) (standing key past) (λ none nothing. refused-some (way_of mode) seen.own seen.others seen.reading refuse none
    (ap (λ quars. map (λ quar. way_of quar.mode) (filter (λ quar. not (is_of who quar)) quars)) nothing))

-- a key at home is refused for want of tokens alone
pub refuses-home : {X : Type 0} (shard : ShardView) (key : QKey) (step : Step) (result : Result X ShardFault)
    → IsAtHome shard.terms key → Refuses (spent_at (next_token shard.terms (past_of shard)) step) result → Refuses (refusal shard key step) result
refuses-home shard key step result home h =
    subst (λ b. Refuses (cond b (spent_at (next_token shard.terms (past_of shard)) step) (Some (faults.Stranger (shard_of key shard.terms.count)))) result)
    (sym (eq-eqb (shard_of key shard.terms.count) shard.terms.no home)) h
