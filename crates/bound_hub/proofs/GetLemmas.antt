-- A get's step: its short, that it is borne out, and that the facts stay.
use Rattle.std.proofs.Common.{ℕ, ◌≡◌, ◌≤◌, ◌==◌, Bool, false, cond, List, ◌∷◌, length, Option, None}
use Rattle.std.proofs.Common.{Some, Ok, Err, is_some, option_map, nat_le, refl, sym, ap, subst, ◌∙◌, eqb-true, arith}
use Rattle.std.proofs.lemmas.Bool.{false≢true}
use Rattle.rows_model.specs.declared.keys.QKey.{QKey}
use Rattle.rows_model.specs.declared.keys.Sid.{Sid}
use Rattle.rows_model.specs.Rows.{Tables}
use Rattle.rows_model.specs.Placement.{shard_of}
use Rattle.case_tables.specs.declared.grids.Verdict.{Verdict}
use Rattle.case_tables.specs.declared.grids.Verdict.TheVariants as verdicts
use Rattle.lease_table.specs.declared.records.Quar.{Quar}
use Rattle.key_shard.specs.declared.steps.Step.{Step}
use Rattle.key_shard.specs.declared.steps.Step.TheVariants as step
use Rattle.key_shard.specs.declared.replies.Got.{Got}
use Rattle.key_shard.specs.declared.replies.ShardFault.{ShardFault}
use Rattle.key_shard.specs.declared.replies.ShardFault.TheVariants as faults
use Rattle.key_shard.specs.declared.replies.Got.TheVariants as got
use Rattle.key_shard.specs.Past.{Terms, entry, own_of, next_token}
use Rattle.key_shard.specs.Answers.{get_step, get_by, found_step, miss_by, miss_step}
use Rattle.key_shard.specs.Replies.{ShowsGot}
use Rattle.key_shard.specs.Shards.{ShardView, past_of, refusal, Refuses, spent_at}
use Rattle.sql_keeper.specs.Fresh.{IsFreshHit, IsFreshStep}
use Rattle.log_word.specs.declared.events.StoreEvent.{StoreEvent}
use Rattle.log_word.specs.declared.seen.Seen.{Seen}
use Rattle.log_word.specs.Events.{commit_count}
use Rattle.log_word.specs.Steps.{IsBorneOut}
use Rattle.key_freshness.specs.Marks.{Mark, key_of, marks_of}
use Rattle.key_freshness.specs.Held.{IsEntryHeld, IsEntryRight}
use Rattle.key_freshness.proofs.HitLemmas.{hit_is_fresh}
use Rattle.key_freshness.proofs.MarkLemmas.{by_test}
use Rattle.bound_hub.specs.Shorts.{short_of}
use Rattle.bound_hub.specs.Knowns.{commits_of, known_of}
use Rattle.bound_hub.specs.Facts.{answer_after}
use Rattle.bound_hub.specs.Gets.{got_short}
use Rattle.bound_hub.proofs.EventLemmas.{commits_counted}
use Rattle.bound_hub.proofs.StepFacts.{IsHonestStep}

-- a hit is the key's entry
abbrev pub IsTheEntry : Option (List ℕ × ℕ) → Got → Type 0
IsTheEntry found (got.Hit value stamp) = found ≡ Some (value, stamp)
IsTheEntry found other = Unit {0}

-- a get's step is honest, where a hit is fresh: it ends nothing, and writes nothing
pub got_is_honest : (opening : Tables) (before more : List Step) (seen : Seen) (s : Step) (answer : Got) → ShowsGot s answer
    → (seen.stopped ≡ false → IsFreshStep opening (commits_of seen.events) more s) → IsHonestStep opening before more seen s
got_is_honest opening before more seen (step.Hit on sid floor value stamp) answer shows fresh = record { own = tt; honest = tt; true_step = λ _. tt; fresh_step = fresh }
got_is_honest opening before more seen (step.Own on sid) answer shows fresh = record { own = tt; honest = tt; true_step = λ _. tt; fresh_step = fresh }
got_is_honest opening before more seen (step.Again on sid floor now stands) answer shows fresh = record { own = tt; honest = tt; true_step = λ _. tt; fresh_step = fresh }
got_is_honest opening before more seen (step.Lease on sid floor now token deadline) answer shows fresh = record { own = tt; honest = tt; true_step = λ _. tt; fresh_step = fresh }
got_is_honest opening before more seen other answer shows fresh = absurd shows

-- a get's hit is fresh, where it tells an entry that is held and right
pub got_is_fresh : (opening : Tables) (events : List StoreEvent) (more : List Step) (key : QKey) (found : Option (List ℕ × ℕ)) (s : Step) (answer : Got)
    → ShowsGot s answer → key_of s ≡ key → IsTheEntry found answer → IsEntryHeld key (marks_of key more) (known_of events) found
    → IsEntryRight (answer_after opening key) (commits_of events) found → IsFreshStep opening (commits_of events) more s
got_is_fresh opening events more key found (step.Hit on sid floor value stamp) answer shows same is held right =
    let at : found ≡ Some (value, stamp) = subst (IsTheEntry found) shows is in
    subst (λ k. IsFreshHit opening (commits_of events) more k value stamp) (sym same)
    (hit_is_fresh key opening (known_of events) more value stamp (subst (IsEntryHeld key (marks_of key more) (known_of events)) at held)
    (subst (IsEntryRight (answer_after opening key) (commits_of events)) at right))
got_is_fresh opening events more key found other answer shows same is held right = tt

-- a hit leaves the entry
pub hit_leaves : (key : QKey) (past : List Step) (s : Step) (value : List ℕ) (stamp : ℕ) → ShowsGot s (got.Hit value stamp) → entry key (s ∷ past) ≡ entry key past
hit_leaves key past (step.Hit on sid floor v n) value stamp shows = refl
hit_leaves key past (step.Own on sid) value stamp shows = refl
hit_leaves key past (step.Again on sid floor now stands) value stamp shows = absurd cc
hit_leaves key past (step.Lease on sid floor now token deadline) value stamp shows = absurd cc
hit_leaves key past other value stamp shows = absurd shows

module _ (terms : Terms) (past : List Step) (key : QKey) (who : Sid) (floor now : ℕ) (answer : Got) (has : Bool) where
  -- what a get's step is in short, its answer tells
  abbrev Tells : Step → Type 0
  Tells s = ShowsGot s answer → (got_short key who answer has ≡ short_of s has) × (key_of s ≡ key)

  same_short : (known : Got) → answer ≡ known → got_short key who answer has ≡ got_short key who known has
  same_short known e = ap (λ a. got_short key who a has) e

  miss_tells : (v : Verdict) → Tells (miss_by terms past key who floor now v)
  miss_tells verdicts.Give e = (same_short _ e, refl)
  miss_tells verdicts.Wait e = (same_short _ e, refl)
  miss_tells verdicts.Own e = (same_short _ e, refl)
  miss_tells verdicts.Void e = (same_short _ e, refl)
  miss_tells verdicts.Join e = (same_short _ e, refl)
  miss_tells verdicts.Same e = (same_short _ e, refl)
  miss_tells verdicts.Refuse e = (same_short _ e, refl)
  miss_tells verdicts.Raise e = (same_short _ e, refl)
  miss_tells verdicts.Gone e = (same_short _ e, refl)

  found_tells : (found : Option (List ℕ × ℕ)) → Tells (found_step terms past key who floor now found)
  found_tells None = miss_tells _
  found_tells (Some found) =
      by_test (λ b. Tells (cond b (step.Hit key who floor found.0 found.1) (miss_step terms past key who floor now))) (nat_le floor found.1)
      (λ is e. (same_short _ e, refl))
      (λ is. miss_tells _)

  own_tells : (own : Option Quar) → Tells (get_by terms past key who floor now own)
  own_tells (Some own) e = (same_short _ e, refl)
  own_tells None e = found_tells (entry key past) e

  pub get_tells : Tells (get_step terms past key who floor now)
  get_tells = own_tells (own_of key who past)

-- the stamp of what was answered, 0 where it has none
abbrev pub stamp_got : Got → ℕ
stamp_got (got.Hit value stamp) = stamp
stamp_got other = 0

module _ (terms : Terms) (past : List Step) (key : QKey) (who : Sid) (floor now : ℕ) (answer : Got) where
  abbrev Finds : Option (List ℕ × ℕ) → Step → Type 0
  Finds found s = ShowsGot s answer → IsTheEntry found answer

  finds : (found : Option (List ℕ × ℕ)) (known : Got) → answer ≡ known → IsTheEntry found known → IsTheEntry found answer
  finds found known e h = subst (IsTheEntry found) (sym e) h

  miss_finds : (found : Option (List ℕ × ℕ)) (v : Verdict) → Finds found (miss_by terms past key who floor now v)
  miss_finds found verdicts.Give e = finds found _ e tt
  miss_finds found verdicts.Wait e = finds found _ e tt
  miss_finds found verdicts.Own e = finds found _ e tt
  miss_finds found verdicts.Void e = finds found _ e tt
  miss_finds found verdicts.Join e = finds found _ e tt
  miss_finds found verdicts.Same e = finds found _ e tt
  miss_finds found verdicts.Refuse e = finds found _ e tt
  miss_finds found verdicts.Raise e = finds found _ e tt
  miss_finds found verdicts.Gone e = finds found _ e tt

  found_finds : (found : Option (List ℕ × ℕ)) → Finds found (found_step terms past key who floor now found)
  found_finds None = miss_finds None _
  found_finds (Some found) =
      by_test (λ b. Finds (Some found) (cond b (step.Hit key who floor found.0 found.1) (miss_step terms past key who floor now))) (nat_le floor found.1)
      (λ is e. finds (Some found) _ e refl)
      (λ is. miss_finds (Some found) _)

  own_finds : (own : Option Quar) → Finds (entry key past) (get_by terms past key who floor now own)
  own_finds (Some own) e = finds (entry key past) _ e tt
  own_finds None e = found_finds (entry key past) e

  pub get_finds : Finds (entry key past) (get_step terms past key who floor now)
  get_finds = own_finds (own_of key who past)

-- the step of a get is borne out, where the entry is held
pub got_borne_out : (events : List StoreEvent) (key : QKey) (marks : List Mark) (who : Sid) (answer : Got) (has : Bool) (found : Option (List ℕ × ℕ)) → IsTheEntry found answer
    → IsEntryHeld key marks (known_of events) found → IsBorneOut events (got_short key who answer has)
got_borne_out events key marks who (got.Hit value stamp) has found is held = record {
  begun = λ e. absurd (false≢true e);
  over = λ e. absurd (false≢true e);
  stamped =
      let within : stamp ≤ length (commits_of events) = (subst (IsEntryHeld key marks (known_of events)) is held).within in
      let e : length (commits_of events) ≡ commit_count events = commits_counted events in
      omega (arith, within, e);
}
got_borne_out events key marks who (got.Lease token) has found is held = record { begun = λ e. absurd (false≢true e); over = λ e. absurd (false≢true e); stamped = omega arith }
got_borne_out events key marks who (got.Again stands) has found is held = record { begun = λ e. absurd (false≢true e); over = λ e. absurd (false≢true e); stamped = omega arith }
got_borne_out events key marks who got.Own has found is held = record { begun = λ e. absurd (false≢true e); over = λ e. absurd (false≢true e); stamped = omega arith }

ok_no_err : {X : Type 0} (x : X) (fault : ShardFault) → Ok x ≡ Err fault → ⊥
ok_no_err x fault e = absurd cc

-- what isn't refused is at home
pub not_refused_at_home : {X : Type 0} (shard : ShardView) (key : QKey) (s : Step) (x : X) → Refuses (refusal shard key s) (Ok x) → shard_of key shard.terms.count ≡ shard.terms.no
not_refused_at_home {X} shard key s x h =
    by_test (λ b. Refuses (cond b (spent_at (next_token shard.terms (past_of shard)) s) (Some (faults.Stranger (shard_of key shard.terms.count)))) (Ok x)
    → shard_of key shard.terms.count ≡ shard.terms.no)
    (shard_of key shard.terms.count == shard.terms.no)
    (λ is r. eqb-true _ _ is)
    (λ is r. absurd (ok_no_err x _ r))
    h

pub is_some_mapped : {X Y : Type 0} (f : X → Y) (o : Option X) → is_some o ≡ is_some (option_map f o)
is_some_mapped f None = refl
is_some_mapped f (Some x) = refl

-- whether there is an entry is told by looking at it
pub has_mapped : {X Y : Type 0} (f : X → Y) (o : Option X) (found : Option Y) (has : Bool) → has ≡ is_some o → option_map f o ≡ found → has ≡ is_some found
has_mapped f o found has same is = same ∙ is_some_mapped f o ∙ ap (λ x. is_some x) is
