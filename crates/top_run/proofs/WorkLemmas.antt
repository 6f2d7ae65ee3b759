-- The ends of a load's run.
use Rattle.std.proofs.Common.{ℕ, suc, ◌≡◌, ◌+◌, ◌-◌, ◌^◌, ◌<◌, ◌≤◌, ◌≢◌, List, [], ◌∷◌, ◌++◌, length, drop, drop-cons, add-one, arith, refl, sym, ap, ◌∙◌, subst, inl, inr, All}
use Rattle.std.specs.Prelude.{Bool, true, false, if◌then◌else◌, ◌⊎◌, nat_lt, cond, Option, Some, None, Result, Ok, Err, IfOk, IfErr, slice_get, option_map}
use Rattle.std.specs.Prelude.{unwrap_or, is_some, IsSome, get_or}
use Rattle.std.specs.List.{position_from}
use Rattle.std.proofs.lemmas.Iterator.Adapters.{position_from-zero}
use Rattle.std.specs.Option.{ForSome}
use Rattle.std.proofs.lemmas.Bool.{false≢true}
use Rattle.std.proofs.lemmas.List.{append-nil, drop_all}
use Rattle.std.proofs.lemmas.List.Elements.{All-get_or}
use Rattle.std.proofs.lemmas.Option.{slice_get-map, slice_get_within, get_or_from_slice_get}
use Rattle.iq_outside.specs.Outside.{Rose}
use Rattle.rows_model.specs.Rows.{Tables}
use Rattle.key_shard.specs.declared.steps.Step.{Step}
use Rattle.key_shard.specs.Answers.{Legal}
use Rattle.key_shard.specs.Past.{Terms}
use Rattle.key_shard.specs.Shards.{ShardView, kept_of}
use Rattle.sql_keeper.specs.Faults.{HaveFailed, FailedSince}
use Rattle.sql_keeper.specs.Fresh.{Covered, Fresh}
use Rattle.sql_keeper.specs.Stores.{StoreView, rows_of}
use Rattle.session_client.specs.declared.plans.Shape.{Shape}
use Rattle.core_history.specs.Machine.{log_cap}
use Rattle.shard_lock.specs.Names.{AreAll, AreLegal, IsNamed}
use Rattle.run_audit.specs.declared.findings.Finding.{Finding}
use Rattle.run_audit.specs.Findings.{histories_in, AreNumbered, AreWhole}
use Rattle.run_inputs.specs.declared.loads.WorkSpec.{WorkSpec}
use Rattle.sql_keeper.specs.Log.{keeps_log}
use Rattle.top_run.specs.declared.plays.Stop.{Stop}
use Rattle.top_run.specs.declared.plays.Stop.TheVariants as stop
use Rattle.top_run.specs.declared.runs.Status.TheVariants as status
use Rattle.top_run.specs.Runs.{Held, Tells, Left, IsOpened, kept_in, is_read_fault, is_write_fault}
use Rattle.top_run.specs.Works.{work_shape, hub_terms, has_spent, first_spent, work_status, end_status, at_write_failed, IsSummarized, IsHalted, IsLeft, IsKept, IsSummed, WorkEnded, most_commits}

-- ---- what the shards of a hub are

-- the element at a place has what all have
at_place : (P : ShardView → Type 0) (shards : List ShardView) (place : ℕ) (shard : ShardView) → All P shards → slice_get shards place ≡ Some shard → P shard
at_place P shards place shard all is =
    subst P (get_or_from_slice_get shards place shard shard is) (All-get_or P shards place shard (slice_get_within shards place shard is) all)

-- shards in their places have the terms of their places
terms_at_place : (terms : ℕ → Terms) (shape : Shape) (rolls : Bool) (shards : List ShardView) → ((place : ℕ) → terms place ≡ hub_terms shape rolls place)
    → AreAll terms shards → (place : ℕ) (shard : ShardView) → slice_get shards place ≡ Some shard → shard.terms ≡ hub_terms shape rolls place
terms_at_place terms shape rolls shards are all place shard is =
    at_place (IsNamed terms) shards place shard all.named is ∙ ap terms (all.placed place shard is) ∙ are place

-- where the terms are those of whole shards, they are whole
pub whole_of : (terms : ℕ → Terms) (shape : Shape) (shards : List ShardView) → ((place : ℕ) → terms place ≡ hub_terms shape false place)
    → AreAll terms shards → AreWhole shards
whole_of terms shape shards are all = λ place default below.
    ap (λ (t : Terms). t.rolls) (all.named place default below ∙ are (get_or shards place default).terms.no)

-- and so is each of them
pub whole_at : (shards : List ShardView) (i : ℕ) (shard : ShardView) → i < length shards → shard ≡ get_or shards i shard
    → AreWhole shards → shard.terms.rolls ≡ false
whole_at shards i shard within is whole = ap (λ (s : ShardView). s.terms.rolls) is ∙ whole i shard within

-- so they can be audited
pub numbered_of : (terms : ℕ → Terms) (shards : List ShardView) → AreAll terms shards → length shards ≤ 64 → AreNumbered shards
numbered_of terms shards all few = record {
  few = omega (arith, few);
  each = λ place shard is. record {
    no = all.placed place shard is;
    count = at_place (λ (s : ShardView). s.terms.count ≡ length shards) shards place shard all.counted is;
  };
}

-- a mapped value is that of a value
unmapped : (f : ShardView → List Step) (o : Option ShardView) (steps : List Step) → option_map f o ≡ Some steps
    → (shard : ShardView) × (o ≡ Some shard) × (f shard ≡ steps)
unmapped f None steps is = absurd (false≢true (ap (λ (o : Option (List Step)). is_some o) is))
unmapped f (Some shard) steps is = (shard, refl, ap (λ (o : Option (List Step)). unwrap_or o steps) is)

-- a shard whose history is legal has the terms of its place
legal_at : (terms : ℕ → Terms) (shape : Shape) (rolls : Bool) (shards : List ShardView) → ((place : ℕ) → terms place ≡ hub_terms shape rolls place)
    → AreAll terms shards → AreLegal shards → (place : ℕ) (shard : ShardView) → slice_get shards place ≡ Some shard
    → Legal (hub_terms shape rolls place) shard.history
legal_at terms shape rolls shards are all legal place shard is =
    subst (λ (t : Terms). Legal t shard.history) (terms_at_place terms shape rolls shards are all place shard is)
    (at_place (λ (s : ShardView). Legal s.terms s.history) shards place shard legal is)

-- and the histories of whole shards are legal
pub legal_of : (terms : ℕ → Terms) (shape : Shape) (shards : List ShardView) → ((place : ℕ) → terms place ≡ hub_terms shape false place)
    → AreAll terms shards → AreLegal shards
    → (place : ℕ) (history : List Step) → slice_get (histories_in shards) place ≡ Some history → IsLeft shape false place history
legal_of terms shape shards are all legal place history is =
    let there = unmapped (λ (s : ShardView). s.history) (slice_get shards place) history (sym (slice_get-map (λ (s : ShardView). s.history) shards place) ∙ is) in
    subst (λ (h : List Step). Legal (hub_terms shape false place) h) there.2 (legal_at terms shape false shards are all legal place there.0 there.1)

-- the steps that a shard gave up
abbrev pub given_up_by : ShardView → List Step
given_up_by shard = if shard.terms.rolls then shard.history else []

-- with those in memory they are its history
pub given_up-kept : (shard : ShardView) → given_up_by shard ++ kept_of shard ≡ shard.history
given_up-kept shard = by shard.terms.rolls
  where
    by : (rolls : Bool) → (if rolls then shard.history else []) ++ (if rolls then [] else shard.history) ≡ shard.history
    by true = append-nil shard.history
    by false = refl

-- and the steps that shards have in memory are the last of a legal history
pub last_of : (terms : ℕ → Terms) (shape : Shape) (shards : List ShardView) → ((place : ℕ) → terms place ≡ hub_terms shape true place)
    → AreAll terms shards → AreLegal shards
    → (place : ℕ) (steps : List Step) → slice_get (kept_in shards) place ≡ Some steps → IsLeft shape true place steps
last_of terms shape shards are all legal place steps is =
    let there = unmapped kept_of (slice_get shards place) steps (sym (slice_get-map kept_of shards place) ∙ is) in
    let shard = there.0 in
    let parts : given_up_by shard ++ steps ≡ shard.history = ap (λ (l : List Step). given_up_by shard ++ l) (sym there.2) ∙ given_up-kept shard in
    record {
      given_up = given_up_by shard;
      legal = subst (λ (h : List Step). Legal (hub_terms shape true place) h) (sym parts)
          (legal_at terms shape true shards are all legal place shard there.1);
    }

-- ---- the least shard that is spent

-- all are left at first
pub spent_first : (shards : List ShardView) → first_spent (histories_in shards) ≡ position_from has_spent 0 (histories_in shards)
spent_first shards = position_from-zero has_spent (histories_in shards)

-- it is the first that is left, or it is behind it
pub spent_next : (shards : List ShardView) (i : ℕ) (shard : ShardView) → i < length shards → shard ≡ get_or shards i shard
    → position_from has_spent i (histories_in (drop i shards))
    ≡ cond (has_spent shard.history) (Some i) (position_from has_spent (i + 1) (histories_in (drop (i + 1) shards)))
spent_next shards i shard within is =
    let cons : drop i shards ≡ shard ∷ drop (suc i) shards =
    drop-cons shards i shard within ∙ ap (λ (s : ShardView). s ∷ drop (suc i) shards) (sym is) in
    let parts : drop i shards ≡ shard ∷ drop (i + 1) shards = rw add-one cons in
    ap (λ (l : List ShardView). position_from has_spent i (histories_in l)) parts

-- and where none is left there is none
pub spent_none : (shards : List ShardView) (i : ℕ) → length shards ≤ i → position_from has_spent i (histories_in (drop i shards)) ≡ None
spent_none shards i all = ap (λ (l : List ShardView). position_from has_spent i (histories_in l)) (drop_all i shards all)

-- ---- how a run ends

-- a keeper of which a call failed has a count that rose
rose_of_failed : (start failed faults : ℕ) → nat_lt 0 failed ≡ true → HaveFailed start failed faults → Rose start faults
rose_of_failed start failed faults some since = by since.few
  where
    by : ((start + failed ≤ faults) ⊎ (faults ≡ 2 ^ 64 - 1)) → Rose start faults
    by (inl h) = inl (grind (arith, some, h))
    by (inr h) = inr h

-- and a keeper of which none failed has its count as before
same_of_none : (start failed faults : ℕ) → nat_lt 0 failed ≡ false → HaveFailed start failed faults → faults ≡ start
same_of_none start failed faults is since = since.none (grind (arith, is))

-- what a run leaves
abbrev pub left_of : StoreView → List (List Step) → Left
left_of store histories = record { opening = Some store.ledger.opening; log = store.ledger.log; histories = histories }

-- a store that takes as many commits as a load keeps its log, which is no longer than that
pub cap_kept : (cap : ℕ) → cap ≡ log_cap → keeps_log cap ≡ true
cap_kept cap is = ap keeps_log is

pub cap_most : (cap : ℕ) → cap ≡ log_cap → cap ≤ most_commits false
cap_most cap is = omega (arith, is)

pub is_kept : (shape : Shape) (rolls : Bool) (held : Held) (before after : Tells) (store : StoreView) (histories : List (List Step)) (start : Option ℕ)
    → after.rows ≡ store.known_rows → after.keeps_failed ≡ store.faults → start ≡ Some before.keeps_failed
    → length store.ledger.log ≤ store.ledger.cap → store.ledger.cap ≤ most_commits rolls
    → ForSome store.known_rows (λ known. known ≡ rows_of store.ledger) → FailedSince start store.ledger.failed store.faults
    → ((place : ℕ) (steps : List Step) → slice_get histories place ≡ Some steps → IsLeft shape rolls place steps) → length histories ≡ shape.shards
    → IsOpened held shape store.ledger.opening after.rows
    → (rolls ≡ false → IsSome store.known_rows → Fresh store.ledger.opening store.ledger.log histories) → (rolls ≡ false → Covered store.ledger.log histories)
    → IsKept shape rolls held before after (left_of store histories) store.ledger.opening store.ledger.failed
is_kept shape rolls held before after store histories start rows count starts short cap same since legal many opened fresh covered = record {
  opening_is = refl;
  opened = opened;
  short = omega (arith, short, cap);
  rows_are = subst (λ (r : Option Tables). ForSome r (λ t. t ≡ rows_of store.ledger)) (sym rows) same;
  as_many = many;
  legal = legal;
  since = subst (λ (n : ℕ). HaveFailed before.keeps_failed store.ledger.failed n) (sym count) (since before.keeps_failed starts);
  fresh = λ whole some. fresh whole (subst (λ (r : Option Tables). IsSome r) rows some);
  covered = covered;
}

module _ (spec : WorkSpec) (held : Held) (before after : Tells)
    (left : Left) (written : ℕ) (opening : Tables) (failed : ℕ) (kept : IsKept (work_shape spec) false held before after left opening failed) where
  same_status : (b : Bool) (spent : Option ℕ) → nat_lt 0 failed ≡ b → first_spent left.histories ≡ spent
      → work_status b spent ≡ work_status (nat_lt 0 failed) (first_spent left.histories)
  same_status b spent is first =
      ap (λ (x : Bool). work_status x spent) (sym is) ∙ ap (λ (o : Option ℕ). work_status (nat_lt 0 failed) o) (sym first)

  unfailed : nat_lt 0 failed ≡ false → after.keeps_failed ≡ before.keeps_failed
  unfailed is = same_of_none before.keeps_failed failed after.keeps_failed is kept.since

  summed_as : (b : Bool) (spent : Option ℕ) (found : Finding) → nat_lt 0 failed ≡ b → first_spent left.histories ≡ spent
      → IsSummarized spec opening left.log left.histories before.taken after.taken written found
      → (work_status b spent ≢ status.KeepFault → after.keeps_failed ≡ before.keeps_failed)
      → IsSummed spec held before after left written (work_status b spent)
  summed_as b spent found is first printed still = record {
    opening = opening;
    failed = failed;
    kept = kept;
    found = found;
    summary_is = printed;
    ends = same_status b spent is first;
    unfailed = still;
  }

  summed : (b : Bool) (spent : Option ℕ) (found : Finding) → nat_lt 0 failed ≡ b → first_spent left.histories ≡ spent
      → IsSummarized spec opening left.log left.histories before.taken after.taken written found
      → WorkEnded (work_status b spent) spec held before after left written
  summed true spent found is first printed = (
    rose_of_failed before.keeps_failed failed after.keeps_failed is kept.since,
    inr (summed_as true spent found is first printed (λ other. absurd (other refl))),
  )
  summed false (Some shard) found is first printed = summed_as false (Some shard) found is first printed (λ _. unfailed is)
  summed false None found is first printed = summed_as false None found is first printed (λ _. unfailed is)

  -- the end of a run that began
  pub work_ended : (printed : Result Finding Stop)
      → IfOk printed (IsSummarized spec opening left.log left.histories before.taken after.taken written)
      → IfErr printed (IsHalted spec opening left.log left.histories before.taken after.taken written)
      → WorkEnded (end_status (nat_lt 0 failed) (first_spent left.histories) printed) spec held before after left written
  work_ended (Ok found) all some = summed (nat_lt 0 failed) (first_spent left.histories) found refl refl all
  work_ended (Err stop.WriteFault) all some = record { opening = opening; failed = failed; kept = kept; cut = some }
  work_ended (Err stop.Memory) all some = inr (record { opening = opening; failed = failed; kept = kept; prints = some })

-- it is none for want of a command, nor at a read, and one at a write where the telling ended there
no_usage_found : (b : Bool) (spent : Option ℕ) → work_status b spent ≡ status.Usage → ⊥
no_usage_found true spent is = cc
no_usage_found false (Some shard) is = cc
no_usage_found false None is = cc

pub no_usage : (b : Bool) (spent : Option ℕ) (printed : Result Finding Stop) → end_status b spent printed ≡ status.Usage → ⊥
no_usage b spent (Ok found) is = no_usage_found b spent is
no_usage b spent (Err stop.WriteFault) is = cc
no_usage b spent (Err stop.Memory) is = cc

no_read_found : (b : Bool) (spent : Option ℕ) → is_read_fault (work_status b spent) ≡ false
no_read_found true spent = refl
no_read_found false (Some shard) = refl
no_read_found false None = refl

pub no_read : (b : Bool) (spent : Option ℕ) (printed : Result Finding Stop) → is_read_fault (end_status b spent printed) ≡ false
no_read b spent (Ok found) = no_read_found b spent
no_read b spent (Err stop.WriteFault) = refl
no_read b spent (Err stop.Memory) = refl

no_write_found : (b : Bool) (spent : Option ℕ) → is_write_fault (work_status b spent) ≡ false
no_write_found true spent = refl
no_write_found false (Some shard) = refl
no_write_found false None = refl

pub at_write_end : (b : Bool) (spent : Option ℕ) (printed : Result Finding Stop) → is_write_fault (end_status b spent printed) ≡ at_write_failed printed
at_write_end b spent (Ok found) = no_write_found b spent
at_write_end b spent (Err stop.WriteFault) = refl
at_write_end b spent (Err stop.Memory) = refl
