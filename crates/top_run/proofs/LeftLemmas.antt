-- The histories that a bound hub leaves of whole shards are fresh, and cover its log.
use Rattle.std.proofs.Common.{ℕ, ◌≡◌, true, List, [], ◌∷◌, ◌++◌, All, length, reverse, refl, sym, ap, subst, ◌∙◌}
use Rattle.std.specs.Prelude.{Bool, false, ◌||◌, Option, Some, IsSome, slice_get, get_or, option_map}
use Rattle.std.specs.List.{list_any}
use Rattle.std.specs.List.{AllByRecursion}
use Rattle.std.proofs.lemmas.Bool.{false≢true, or_left}
use Rattle.std.proofs.lemmas.List.{length-map}
use Rattle.std.proofs.lemmas.List.Folds.{list_any-append}
use Rattle.std.proofs.lemmas.List.Elements.{All-get_or, All-map, All-weaker}
use Rattle.std.proofs.lemmas.List.Sorted.{list_any-IsPermutation, IsPermutation-reverse}
use Rattle.std.proofs.lemmas.Option.{slice_get-map, slice_get_within, get_or_from_slice_get}
use Rattle.rows_model.specs.declared.keys.QKey.{QKey}
use Rattle.rows_model.specs.Rows.{Tables}
use Rattle.rows_model.specs.Changes.{touches}
use Rattle.rows_model.specs.Placement.{shard_of}
use Rattle.rows_model.proofs.PlacementLemmas.{shard_below}
use Rattle.rows_model.specs.declared.keys.Sid.{Sid}
use Rattle.key_shard.specs.declared.steps.Step.{Step}
use Rattle.key_shard.specs.declared.steps.Step.TheVariants as step
use Rattle.key_shard.specs.Past.{Terms}
use Rattle.key_shard.specs.Shards.{ShardView}
use Rattle.sql_keeper.specs.declared.stores.Commit.{Commit}
use Rattle.sql_keeper.specs.Fresh.{Fresh, Covered, HasGranted, IsFreshPast, IsFreshStep, quarantines, releases}
use Rattle.sql_keeper.specs.Stores.{StoreView}
use Rattle.key_freshness.proofs.KnownLemmas.{stands-within}
use Rattle.log_word.specs.declared.seen.Seen.{Seen}
use Rattle.shard_lock.specs.Names.{AreAll}
use Rattle.bound_hub.specs.Parts.{IsLeft}
use Rattle.bound_hub.specs.Ties.{IsNewShard}
use Rattle.run_audit.specs.Findings.{histories_in}
use Rattle.top_run.specs.Warming.{GoesOn, LoadsOnly}

-- ---- steps by which rows are loaded

-- they release nothing
none_released : (key : QKey) (who : Sid) (past : List Step) → AllByRecursion LoadsOnly past → list_any (releases key who) past ≡ false
none_released key who [] loads = refl
none_released key who (step.Lease on sid floor now token deadline ∷ past) loads = none_released key who past loads.1
none_released key who (step.Stored on token now value stamp evicted ∷ past) loads = none_released key who past loads.1
none_released key who (step.Hit on sid floor value stamp ∷ past) loads = absurd loads.0
none_released key who (step.Again on sid floor now stands ∷ past) loads = absurd loads.0
none_released key who (step.Own on sid ∷ past) loads = absurd loads.0
none_released key who (step.Void on token now ∷ past) loads = absurd loads.0
none_released key who (step.Granted on sid mode shift now token deadline ∷ past) loads = absurd loads.0
none_released key who (step.Held on sid mode ∷ past) loads = absurd loads.0
none_released key who (step.Refused on sid mode holder held ∷ past) loads = absurd loads.0
none_released key who (step.Released on sid token how ∷ past) loads = absurd loads.0
none_released key who (step.Gone on sid token ∷ past) loads = absurd loads.0
none_released key who (step.Raised on sid token ∷ past) loads = absurd loads.0
none_released key who (step.Shared on sid token holder ∷ past) loads = absurd loads.0
none_released key who (step.Renewed on sid token now deadline ∷ past) loads = absurd loads.0

-- they are no hits
pub loads_fresh : (opening : Tables) (log : List Commit) (past : List Step) → AllByRecursion LoadsOnly past → IsFreshPast opening log past
loads_fresh opening log [] loads = tt
loads_fresh opening log (step.Lease on sid floor now token deadline ∷ past) loads = (tt, loads_fresh opening log past loads.1)
loads_fresh opening log (step.Stored on token now value stamp evicted ∷ past) loads = (tt, loads_fresh opening log past loads.1)
loads_fresh opening log (step.Hit on sid floor value stamp ∷ past) loads = absurd loads.0
loads_fresh opening log (step.Again on sid floor now stands ∷ past) loads = absurd loads.0
loads_fresh opening log (step.Own on sid ∷ past) loads = absurd loads.0
loads_fresh opening log (step.Void on token now ∷ past) loads = absurd loads.0
loads_fresh opening log (step.Granted on sid mode shift now token deadline ∷ past) loads = absurd loads.0
loads_fresh opening log (step.Held on sid mode ∷ past) loads = absurd loads.0
loads_fresh opening log (step.Refused on sid mode holder held ∷ past) loads = absurd loads.0
loads_fresh opening log (step.Released on sid token how ∷ past) loads = absurd loads.0
loads_fresh opening log (step.Gone on sid token ∷ past) loads = absurd loads.0
loads_fresh opening log (step.Raised on sid token ∷ past) loads = absurd loads.0
loads_fresh opening log (step.Shared on sid token holder ∷ past) loads = absurd loads.0
loads_fresh opening log (step.Renewed on sid token now deadline ∷ past) loads = absurd loads.0

only_front : (x y : Bool) → y ≡ false → (x || y) ≡ true → x ≡ true
only_front true y none h = refl
only_front false y none h = absurd (false≢true (sym none ∙ h))

-- a step is as fresh behind them as without them
fresh_step : (opening : Tables) (log : List Commit) (more past : List Step) (one : Step) → AllByRecursion LoadsOnly past
    → IsFreshStep opening log more one → IsFreshStep opening log (more ++ past) one
fresh_step opening log more past (step.Hit key sid floor value stamp) loads h = record {
  known = h.known;
  right = h.right;
  current = λ place commit at touched released.
      let p = releases key commit.sid in
      h.current place commit at touched
      (only_front (list_any p more) (list_any p past) (none_released key commit.sid past loads) (sym (list_any-append p more past) ∙ released));
}
fresh_step opening log more past other loads h = tt

-- and so are steps
pub fresh_behind : (opening : Tables) (log : List Commit) (more past : List Step) → AllByRecursion LoadsOnly past
    → IsFreshPast opening log more → IsFreshPast opening log (more ++ past)
fresh_behind opening log [] past loads h = loads_fresh opening log past loads
fresh_behind opening log (one ∷ more) past loads h =
    (fresh_step opening log more past one loads h.0, fresh_behind opening log more past loads h.1)

module _ (opening : Tables) (before : ℕ → List Step) (loads : (place : ℕ) → AllByRecursion LoadsOnly (before place)) (store : StoreView) (seen : Seen) where
  fresh_history : (shard : ShardView) → IsLeft opening before store seen shard → IsSome store.known_rows
      → IsFreshPast opening store.ledger.log (reverse shard.history)
  fresh_history shard left some =
      subst (λ (past : List Step). IsFreshPast opening store.ledger.log past) (sym left.goes_on)
      (fresh_behind opening store.ledger.log left.more (before shard.terms.no) (loads shard.terms.no) (left.hits some))

  pub left_fresh : (shards : List ShardView) → All (IsLeft opening before store seen) shards → IsSome store.known_rows
      → Fresh opening store.ledger.log (histories_in shards)
  left_fresh shards left some =
      All-map (λ (history : List Step). IsFreshPast opening store.ledger.log (reverse history)) (λ (shard : ShardView). shard.history) shards
      (λ place default below. fresh_history (get_or shards place default) (left place default below) some)

  granted_there : (shard : ShardView) → IsLeft opening before store seen shard → (place : ℕ) (commit : Commit) (key : QKey)
      → slice_get store.ledger.log place ≡ Some commit → touches commit.txn key ≡ true → shard_of key shard.terms.count ≡ shard.terms.no
      → HasGranted key commit.sid shard.history
  granted_there shard left place commit key at touched home =
      let p = quarantines key commit.sid in
      list_any-IsPermutation p shard.history (reverse shard.history) (IsPermutation-reverse shard.history)
      ∙ ap (λ (past : List Step). list_any p past) left.goes_on ∙ list_any-append p left.more (before shard.terms.no)
      ∙ or_left (list_any p left.more) (list_any p (before shard.terms.no)) (left.covered place commit key at touched home)

  pub left_covered : (terms : ℕ → Terms) (shards : List ShardView) → AreAll terms shards → All (IsLeft opening before store seen) shards
      → Covered store.ledger.log (histories_in shards)
  left_covered terms shards all left place commit key at touched =
      let many : length (histories_in shards) ≡ length shards = length-map shards (λ (s : ShardView). s.history) in
      let home = shard_of key (length shards) in
      let there = stands-within shards home (shard_below key (length shards) all.some) in
      let shard = there.0 in
      let at_home = at_place (λ (s : ShardView). IsLeft opening before store seen s) shards home shard left there.1 in
      let count = at_place (λ (s : ShardView). s.terms.count ≡ length shards) shards home shard all.counted there.1 in
      let number = all.placed home shard there.1 in (
        shard.history,
        subst (λ n. slice_get (histories_in shards) (shard_of key n) ≡ Some shard.history) (sym many)
            (slice_get-map (λ (s : ShardView). s.history) shards home ∙ ap (λ (o : Option ShardView). option_map (λ (s : ShardView). s.history) o) there.1),
        granted_there shard at_home place commit key at touched (ap (λ n. shard_of key n) count ∙ sym number),
      )
    where
      at_place : (P : ShardView → Type 0) (shards : List ShardView) (place : ℕ) (shard : ShardView) → All P shards → slice_get shards place ≡ Some shard → P shard
      at_place P shards place shard all is =
          subst P (get_or_from_slice_get shards place shard shard is) (All-get_or P shards place shard (slice_get_within shards place shard is) all)

-- a hub that was never made leaves what was loaded
pub new_fresh : (opening first : Tables) (before : ℕ → List Step) (stopped : Bool) (log : List Commit) (shards : List ShardView)
    → ((place : ℕ) → AllByRecursion LoadsOnly (before place)) → All (IsNewShard first before stopped) shards → Fresh opening log (histories_in shards)
new_fresh opening first before stopped log shards loads new =
    All-map (λ (history : List Step). IsFreshPast opening log (reverse history)) (λ (shard : ShardView). shard.history) shards
    (λ place default below.
    subst (λ (past : List Step). IsFreshPast opening log past) (sym (new place default below).past_is)
    (loads_fresh opening log (before (get_or shards place default).terms.no) (loads (get_or shards place default).terms.no)))

-- ---- the shards go on from what they had, and their entries are right

pub left_goes_on : (opening : Tables) (before : ℕ → List Step) (store : StoreView) (seen : Seen) (shards : List ShardView)
    → All (IsLeft opening before store seen) shards → All (GoesOn before) shards
left_goes_on opening before store seen shards left =
    All-weaker (IsLeft opening before store seen) (GoesOn before) (λ shard h. record { more = h.more; goes_on = h.goes_on }) shards left

pub new_goes_on : (opening : Tables) (before : ℕ → List Step) (stopped : Bool) (shards : List ShardView)
    → All (IsNewShard opening before stopped) shards → All (GoesOn before) shards
new_goes_on opening before stopped shards new =
    All-weaker (IsNewShard opening before stopped) (GoesOn before) (λ shard h. record { more = []; goes_on = h.past_is }) shards new
