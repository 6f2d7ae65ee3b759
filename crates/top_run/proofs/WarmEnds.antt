-- The three ends of a run of two loads.
use Rattle.std.proofs.Common.{ℕ, ◌≡◌, ◌≤◌, ◌+◌, ◌-◌, ◌^◌, ◌≢◌, List, [], ◌∷◌, ◌++◌, length, refl, sym, ap, subst, ◌∙◌, inl, inr, arith}
use Rattle.std.specs.Prelude.{Bool, true, false, ◌⊎◌, nat_lt, Option, Some, None, Result, Ok, Err, IfOk, IfErr, OnErr, IsErr, IsSome}
use Rattle.std.specs.Option.{ForSome, option_or}
use Rattle.std.proofs.lemmas.Bool.{false≢true}
use Rattle.std.proofs.lemmas.List.{length-map}
use Rattle.iq_outside.specs.Outside.{Rose}
use Rattle.rows_model.specs.Rows.{Tables}
use Rattle.key_shard.specs.Past.{Terms}
use Rattle.key_shard.specs.Shards.{ShardView}
use Rattle.sql_keeper.specs.Faults.{HaveFailed}
use Rattle.sql_keeper.specs.Log.{rows_after}
use Rattle.sql_keeper.specs.Stores.{StoreView}
use Rattle.shard_lock.specs.Names.{AreAll}
use Rattle.run_audit.specs.declared.findings.Finding.{Finding}
use Rattle.run_audit.specs.Findings.{histories_in}
use Rattle.run_inputs.specs.declared.loads.WorkSpec.{WorkSpec}
use Rattle.top_run.specs.declared.plays.Stop.{Stop}
use Rattle.top_run.specs.declared.plays.Stop.TheVariants as stop
use Rattle.top_run.specs.declared.runs.Status.{Status}
use Rattle.top_run.specs.declared.runs.Status.TheVariants as status
use Rattle.top_run.specs.Runs.{Held, Left, Prints, IsOpened}
use Rattle.top_run.specs.Serves.{Course}
use Rattle.run_inputs.specs.Loads.{load}
use Rattle.top_run.specs.Works.{AreUnspent, HaveSessions, IsHalted, IsKept, IsSummary, first_spent, hub_terms, work_shape, work_status, end_status}
use Rattle.top_run.specs.Warms.{HasEndedSecond, HasGoneOn, HasStoppedBetween, HasStoppedFirst, IsFirst, IsLeftBy, IsLinesPart, IsStoppedFirst, IsWarmed, dump_lines, dumps_in, first_of, front_of, next_load, nothing_left, steps_behind}
use Rattle.top_run.specs.Warming.{HasRunLoad, IsHaltedBehind, IsToldBehind, left_by, stop_status}
use Rattle.top_run.proofs.WorkLemmas.{legal_of}

-- ---- the first load didn't begin, or stopped in its summary

module _ (spec : WorkSpec) (course : Course) (none : course.left ≡ nothing_left) where
  -- the keeper failed at its start, or memory ran out before that
  pub never_began : (ended : Status) → course.earlier ≡ []
      → IsStoppedFirst ended spec course.held course.before course.after nothing_left course.written → HasStoppedFirst ended spec course
  never_began ended no_earlier stopped = record {
    stopped = subst (λ (first : Left). IsStoppedFirst ended spec course.held course.before course.after first course.written) (sym (ap first_of no_earlier)) stopped;
    few = subst (λ (earlier : List Left). length earlier ≤ 1) (sym no_earlier) (omega arith);
    none_left = none;
  }

  -- it began, and stopped for this
  halted_so : (first : Left) (opening : Tables) (failed : ℕ) → IsKept (work_shape spec) false course.held course.before course.after first opening failed
      → (why : Stop) → IsHalted spec opening first.log first.histories course.before.taken course.after.taken course.written why
      → IsStoppedFirst (stop_status why) spec course.held course.before course.after first course.written
  halted_so first opening failed kept stop.WriteFault cut = record { opening = opening; failed = failed; kept = kept; cut = cut }
  halted_so first opening failed kept stop.Memory prints = inr (record { opening = opening; failed = failed; kept = kept; prints = prints })

  pub stopped_first : (first : Left) (opening : Tables) (failed : ℕ) → course.earlier ≡ first ∷ []
      → IsKept (work_shape spec) false course.held course.before course.after first opening failed
      → (why : Stop) → IsHalted spec opening first.log first.histories course.before.taken course.after.taken course.written why
      → HasStoppedFirst (stop_status why) spec course
  stopped_first first opening failed only kept why halted = record {
    stopped = subst (λ (left : Left). IsStoppedFirst (stop_status why) spec course.held course.before course.after left course.written) (sym (ap first_of only))
        (halted_so first opening failed kept why halted);
    few = subst (λ (earlier : List Left). length earlier ≤ 1) (sym only) (omega arith);
    none_left = none;
  }

  -- ---- between the loads

  pub stopped_between : (ended : Status) (first : Left) (opening : Tables) (text lines : List ℕ) (failed : ℕ)
      → IsFirst spec course.held course.after.rows course.earlier first opening text
      → ForSome course.after.rows (λ known. known ≡ rows_after opening first.log)
      → HaveFailed course.before.keeps_failed failed course.after.keeps_failed
      → IsLinesPart ended (dump_lines (dumps_in first)) lines
      → Prints course.before.taken course.after.taken (text ++ lines) course.written → HasStoppedBetween ended spec course
  stopped_between ended first opening text lines failed is_first rows since part prints = record {
    first = first;
    opening = opening;
    text = text;
    is_first = is_first;
    none_left = none;
    rows_are = rows;
    failed = failed;
    since = since;
    lines = lines;
    is_part = part;
    prints = prints;
  }

-- ---- what the first load left

-- terms that are the same at each place name the same shards
pub all_alike : (terms others : ℕ → Terms) (shards : List ShardView) → ((place : ℕ) → terms place ≡ others place) → AreAll terms shards → AreAll others shards
all_alike terms others shards same all = record {
  some = all.some;
  named = λ place default below. all.named place default below ∙ same _;
  counted = all.counted;
  placed = all.placed;
}

-- what is left of a load that was run, where no more is told at the end than then
pub left_by_first : (spec : WorkSpec) (store : StoreView) (shards : List ShardView) (known_rows : Option Tables) → HasRunLoad spec store shards
    → (IsSome known_rows → IsSome store.known_rows) → length store.ledger.log ≤ store.ledger.cap → length (histories_in shards) ≡ spec.shards
    → IsLeftBy spec known_rows store.ledger.opening (left_by store shards)
left_by_first spec store shards known_rows run before short many = record {
  opening_is = refl;
  short = subst (λ (n : ℕ). length store.ledger.log ≤ n) run.cap_is short;
  as_many = many;
  legal = legal_of (hub_terms (work_shape spec) false) (work_shape spec) shards (λ place. refl) run.all run.legal;
  fresh = λ some. run.fresh (before some);
  covered = run.covered;
}

-- so the first load ended with its summary
pub is_first_of : (spec : WorkSpec) (held : Held) (store : StoreView) (shards : List ShardView) (found : Finding) (text : List ℕ) → HasRunLoad spec store shards
    → IsOpened held (work_shape spec) store.ledger.opening store.known_rows
    → IsSummary spec store.ledger.opening store.ledger.log (histories_in shards) found text → length store.ledger.log ≤ store.ledger.cap
    → IsFirst spec held store.known_rows (left_by store shards ∷ []) (left_by store shards) store.ledger.opening text
is_first_of spec held store shards found text run opened summary short = record {
  only = refl;
  left = left_by_first spec store shards store.known_rows run (λ some. some) short
      (length-map shards (λ (s : ShardView). s.history) ∙ run.as_many);
  opened = opened;
  found = found;
  summary = summary;
}

-- where less is told later, what was told of the first load still holds
pub first_later : (spec : WorkSpec) (held : Held) (known_rows later : Option Tables) (earlier : List Left) (first : Left) (opening : Tables) (text : List ℕ)
    → (IsSome later → IsSome known_rows) → IsFirst spec held known_rows earlier first opening text → IsFirst spec held later earlier first opening text
first_later spec held known_rows later earlier first opening text before h = record {
  only = h.only;
  left = record {
    opening_is = h.left.opening_is;
    short = h.left.short;
    as_many = h.left.as_many;
    legal = h.left.legal;
    fresh = λ some. h.left.fresh (before some);
    covered = h.left.covered;
  };
  opened = record {
    fresh = h.opened.fresh;
    opened = λ rows is. still rows is;
  };
  found = h.found;
  summary = h.summary;
}
  where
    still : (rows : Tables) → later ≡ Some rows → ForSome (held.rows (work_shape spec).members) (λ there. opening ≡ there)
    still rows is = by known_rows (before (subst (λ (o : Option Tables). IsSome o) (sym is) refl)) h.opened.opened
      where
        by : (o : Option Tables) → IsSome o → ForSome o (λ _. ForSome (held.rows (work_shape spec).members) (λ there. opening ≡ there))
            → ForSome (held.rows (work_shape spec).members) (λ there. opening ≡ there)
        by None some opened = absurd (false≢true some)
        by (Some others) some opened = opened others refl

-- ---- the second load began

-- a keeper of which a call failed has a count that rose
rose_of_failed : (start failed faults : ℕ) → nat_lt 0 failed ≡ true → HaveFailed start failed faults → Rose start faults
rose_of_failed start failed faults some since = by since.few
  where
    by : ((start + failed ≤ faults) ⊎ (faults ≡ 2 ^ 64 - 1)) → Rose start faults
    by (inl h) = inl (grind (arith, some, h))
    by (inr h) = inr h

-- and a keeper of which none failed has its count as before
same_of_none : (start failed faults : ℕ) → nat_lt 0 failed ≡ false → HaveFailed start failed faults → faults ≡ start
same_of_none start failed faults is since = since.none (grind (arith, is))

module _ (spec : WorkSpec) (course : Course) (gone : HasGoneOn spec course) where
  -- the rows that the second load began with, and the least shard that is spent
  abbrev anew : Tables
  anew = rows_after gone.opening gone.first.log

  abbrev spent : Option ℕ
  spent = option_or (first_spent gone.first.histories) (first_spent course.left.histories)

  -- its sessions are told by the steps behind the loaded ones
  abbrev HaveOwn : Type 0
  HaveOwn = AreUnspent course.left.histories → HaveSessions (load (next_load spec)) (steps_behind gone.first.log gone.first.histories course.left.histories)

  abbrev IsSummarized : Finding → Type 0
  IsSummarized found =
      IsToldBehind (next_load spec) anew course.left.log course.left.histories course.before.taken course.after.taken
      (front_of gone.text gone.first) course.written found

  warmed_as : (b : Bool) (o : Option ℕ) (found : Finding) → nat_lt 0 gone.failed ≡ b → spent ≡ o → IsSummarized found → HaveOwn
      → (work_status b o ≢ status.KeepFault → course.after.keeps_failed ≡ course.before.keeps_failed) → IsWarmed spec course (work_status b o)
  warmed_as b o found is first ended_so own still = record {
    begun = gone;
    found = found;
    last = ended_so.text;
    summary = ended_so.is_summary;
    sessions = own;
    prints = ended_so.prints;
    ends = ap (λ (x : Bool). work_status x o) (sym is) ∙ ap (λ (x : Option ℕ). work_status (nat_lt 0 gone.failed) x) (sym first);
    unfailed = still;
  }

  unfailed : nat_lt 0 gone.failed ≡ false → course.after.keeps_failed ≡ course.before.keeps_failed
  unfailed is = same_of_none course.before.keeps_failed gone.failed course.after.keeps_failed is gone.since

  warmed : (b : Bool) (o : Option ℕ) (found : Finding) → nat_lt 0 gone.failed ≡ b → spent ≡ o → IsSummarized found → HaveOwn
      → HasEndedSecond (work_status b o) spec course
  warmed true o found is first ended_so own = (
    rose_of_failed course.before.keeps_failed gone.failed course.after.keeps_failed is gone.since,
    warmed_as true o found is first ended_so own (λ other. absurd (other refl)),
  )
  warmed false (Some shard) found is first ended_so own = warmed_as false (Some shard) found is first ended_so own (λ _. unfailed is)
  warmed false None found is first ended_so own = warmed_as false None found is first ended_so own (λ _. unfailed is)

  -- and the run ended by what stopped it, if something did
  pub ended_second : (ended_so : Result Finding Stop) → IfOk ended_so IsSummarized
      → IfErr ended_so (IsHaltedBehind (next_load spec) anew course.left.log course.left.histories course.before.taken course.after.taken
      (front_of gone.text gone.first) course.written)
      → IfOk ended_so (λ found. HaveOwn) → HasEndedSecond (end_status (nat_lt 0 gone.failed) spent ended_so) spec course
  ended_second (Ok found) all some own = warmed (nat_lt 0 gone.failed) spent found refl refl all own
  ended_second (Err stop.WriteFault) all some own = record {
    begun = gone;
    found = some.found;
    last = some.text;
    summary = some.is_summary;
    printed = some.printed;
    more = some.more;
    parts = some.parts;
    prints = some.prints;
  }
  ended_second (Err stop.Memory) all some own = record { begun = gone; prints = some }

-- what follows of transcripts that there are follows where the summary was written of them
pub where_told : {X Y Z E F G : Type 0} (transcripts : Result X E) (made : Result Y F) (ended_so : Result Z G) (P : X → Type 0) {Q : Type 0}
    → OnErr transcripts (IsErr made) → OnErr made (IsErr ended_so) → IfOk transcripts P → ((x : X) → P x → Q) → IfOk ended_so (λ z. Q)
where_told transcripts made (Err e) P none unmade ran then = tt
where_told (Ok x) made (Ok z) P none unmade ran then = then x ran
where_told (Err e) (Ok y) (Ok z) P none unmade ran then = absurd (false≢true none)
where_told (Err e) (Err f) (Ok z) P none unmade ran then = absurd (false≢true unmade)
