-- How a server's cache begins: what is found in its file, and what of that is known at the end.
use Rattle.std.proofs.Common.{ℕ, suc, ◌≡◌, ◌≤◌, ◌+◌, ◌*◌, List, [], ◌∷◌, ◌++◌, All, length, refl, sym, subst, ◌∙◌, inl, inr, arith}
use Rattle.std.specs.Prelude.{◌⊎◌, ◌-◌, ◌^◌, min, Option, Some, None, IsSome, slice_get, Vec}
use Rattle.std.specs.Global.{Global}
use Rattle.std.proofs.lemmas.List.Elements.{All-append, All-cons, All-nil}
use Rattle.std.proofs.lemmas.Option.{slice_get_within}
use Rattle.iq_outside.specs.Outside.{Rose}
use Rattle.iq_outside.proofs.OutsideLemmas.{Rose-earlier}
use Rattle.rows_model.specs.Query.{answer}
use Rattle.rows_model.specs.Rows.{Tables}
use Rattle.key_freshness.proofs.KnownLemmas.{stands-pushed}
use Rattle.key_shard.specs.Shards.{ShardView, past_of}
use Rattle.sql_keeper.specs.Stores.{StoreView}
use Rattle.shard_dump.specs.declared.rows.Dump.{Dump}
use Rattle.shard_dump.specs.declared.rows.DumpRow.{DumpRow}
use Rattle.shard_dump.specs.Loads.{HasRows}
use Rattle.cache_file.specs.Files.{Told}
use Rattle.run_words.specs.Words.{path_in}
use Rattle.top_run.specs.declared.serves.Begun.{Begun}
use Rattle.top_run.specs.declared.serves.Begun.TheVariants as cache
use Rattle.top_run.specs.declared.serves.ColdCause.{ColdCause}
use Rattle.top_run.specs.declared.serves.ColdCause.TheVariants as why
use Rattle.top_run.specs.Begins.{AreFilledWith, AreRightOn, Beginning, BeginsAs, FilesSeen, HaveRoom, IsCold, IsTakenOver, StopsFilling, rows_count}

-- ---- dumps, one after the other

pub rows_pushed : (dumps : List Dump) (dump : Dump) → rows_count (dumps ++ dump ∷ []) ≡ rows_count dumps + length dump.rows
rows_pushed [] dump = omega arith
rows_pushed (first ∷ dumps) dump = let rest = rows_pushed dumps dump in omega (arith, rest)

tail_has : (P : Dump → Type 0) (dump : Dump) (dumps : List Dump) → All P (dump ∷ dumps) → All P dumps
tail_has P dump dumps all = λ place default below. all (suc place) default (omega (arith, below))

-- there aren't more of them than shards have room for
pub rows_few : (dumps : List Dump) → HaveRoom dumps → rows_count dumps ≤ 4096 * length dumps
rows_few [] room = omega arith
rows_few (dump ∷ dumps) room =
    let first : length dump.rows ≤ 4096 = room 0 dump (omega arith) in
    let rest = rows_few dumps (tail_has (λ (d : Dump). length d.rows ≤ 4096) dump dumps room) in
    omega (arith, first, rest)

-- what holds of all holds of the one behind the first
one_of : (P : Dump → Type 0) (front : List Dump) (dump : Dump) (texts : List Dump) → All P (front ++ dump ∷ texts) → P dump
one_of P [] dump texts all = all 0 dump (omega arith)
one_of P (first ∷ front) dump texts all = one_of P front dump texts (tail_has P first (front ++ dump ∷ texts) all)

just_one : (P : Dump → Type 0) (dump : Dump) → P dump → All P (dump ∷ [])
just_one P dump is = All-cons P dump [] is (All-nil P)

-- where one dump isn't loaded, not all are
pub stops_all : (store : StoreView) (given front : List Dump) (dump : Dump) (texts : List Dump) (cause : ColdCause) → given ≡ front ++ dump ∷ texts
    → StopsFilling store (dump ∷ []) cause → StopsFilling store given cause
stops_all store given front dump texts why.NoFile parts stops = stops
stops_all store given front dump texts why.FileFault parts stops = stops
stops_all store given front dump texts why.NoCache parts stops = λ room.
    stops (just_one (λ (d : Dump). length d.rows ≤ 4096) dump
    (one_of (λ (d : Dump). length d.rows ≤ 4096) front dump texts (subst HaveRoom parts room)))
stops_all store given front dump texts why.OtherRows parts stops = λ some right.
    let P : Dump → Type 0 = λ d. All (λ (row : DumpRow). row.value ≡ answer row.key store.ledger.opening) d.rows in
    stops some (just_one P dump (one_of P front dump texts (subst (AreRightOn store.ledger.opening) parts right)))
stops_all store given front dump texts why.StoreFault parts stops = stops
stops_all store given front dump texts why.Memory parts stops = tt

-- ---- shards that are filled with them

pub filled_none : (rows : Option Tables) (opening : Tables) → AreFilledWith [] rows opening [] 0
filled_none rows opening = record {
  hold = λ place dump shard at here. absurd cc;
  room = All-nil (λ (d : Dump). length d.rows ≤ 4096);
  right = λ some. All-nil (λ (d : Dump). All (λ (row : DumpRow). row.value ≡ answer row.key opening) d.rows);
  count_is = refl;
}

-- one more shard, beside a store of the same rows that tells no more of them
pub filled_more : (front : List Dump) (dump : Dump) (shards : List ShardView) (shard : ShardView) (rows later : Option Tables) (opening now : Tables) (count more : ℕ)
    → length front ≡ length shards → now ≡ opening → (IsSome later → IsSome rows) → more ≡ count + length dump.rows → HasRows (past_of shard) dump.rows
    → length dump.rows ≤ 4096 → (IsSome later → All (λ row. row.value ≡ answer row.key now) dump.rows) → AreFilledWith front rows opening shards count
    → AreFilledWith (front ++ dump ∷ []) later now (shards ++ shard ∷ []) more
filled_more front dump shards shard rows later opening now count more many same tells sum has room right before = record {
  hold = λ place d s at here. by place d s (stands-pushed front dump d place at) (stands-pushed shards shard s place here);
  room = All-append (λ (d : Dump). length d.rows ≤ 4096) front (dump ∷ []) before.room (just_one (λ (d : Dump). length d.rows ≤ 4096) dump room);
  right = λ some.
      let P : Dump → Type 0 = λ d. All (λ (row : DumpRow). row.value ≡ answer row.key now) d.rows in
      All-append P front (dump ∷ []) (subst (λ (t : Tables). AreRightOn t front) (sym same) (before.right (tells some))) (just_one P dump (right some));
  count_is = let was = before.count_is in let pushed = rows_pushed front dump in omega (arith, sum, was, pushed);
}
  where
    by : (place : ℕ) (d : Dump) (s : ShardView) → (slice_get front place ≡ Some d) ⊎ ((place ≡ length front) × (dump ≡ d))
        → (slice_get shards place ≡ Some s) ⊎ ((place ≡ length shards) × (shard ≡ s)) → HasRows (past_of s) d.rows
    by place d s (inl at) (inl here) = before.hold place d s at here
    by place d s (inl at) (inr here) =
        let below = slice_get_within front place d at in let end = here.0 in absurd (omega (arith, below, end, many))
    by place d s (inr at) (inl here) =
        let below = slice_get_within shards place s here in let end = at.0 in absurd (omega (arith, below, end, many))
    by place d s (inr at) (inr here) =
        subst (λ (x : ShardView). HasRows (past_of x) d.rows) here.1 (subst (λ (x : Dump). HasRows (past_of shard) x.rows) at.1 has)

-- the number of rows doesn't come to the end of its type
pub count_grows : (front : List Dump) (dump : Dump) (shards : List ShardView) (rows : Option Tables) (opening : Tables) (count more sum : ℕ)
    → AreFilledWith front rows opening shards count → length front ≤ 64 → length dump.rows ≤ 4096 → sum ≡ count + length dump.rows
    → (sum ≤ 1000000 → more ≡ sum) → more ≡ count + length dump.rows
count_grows front dump shards rows opening count more sum before few room is grows =
    let most = rows_few front before.room in
    let was = before.count_is in
    grows (omega (arith, is, most, was, few, room)) ∙ is

-- ---- what was so at the beginning is so at the end

-- a number that others are added to, up to the end of its type, is no less than it was
pub least_of : (failed more now : ℕ) → now ≡ min (failed + more) (2 ^ 64 - 1) → failed ≤ 2 ^ 64 - 1 → failed ≤ now
least_of failed more now is few = grind (arith, is, few)

-- more is known since, of the same files and the same opening rows
pub record GoesOnFrom (was now : Beginning) : Type 0 where
  pub files : now.files_before ≡ was.files_before
  pub opening : now.opening ≡ was.opening
  pub tells : IsSome now.rows → IsSome was.rows
  pub fell_never : was.files_before.faults ≤ was.files_after.faults
  pub files_on : was.files_after.faults ≤ now.files_after.faults
  pub store_on : was.failed ≤ now.failed

taken_still : (shards : ℕ) (found : Told) (was now : Beginning) (count : ℕ) → GoesOnFrom was now → IsTakenOver shards found was.rows was.opening count
    → IsTakenOver shards found now.rows now.opening count
taken_still shards found was now count on h = record {
  text = h.text;
  has_text = h.has_text;
  dumps = h.dumps;
  is_cache = h.is_cache;
  room = h.room;
  right = λ some. subst (λ (t : Tables). AreRightOn t h.dumps) (sym on.opening) (h.right (on.tells some));
  count_is = h.count_is;
}

cold_still : (shards : ℕ) (found : Told) (was now : Beginning) (cause : ColdCause) → GoesOnFrom was now → IsCold shards found was cause → IsCold shards found now cause
cold_still shards found was now why.NoFile on h = h
cold_still shards found was now why.FileFault on h =
    subst (λ (files : FilesSeen). Rose files.faults now.files_after.faults) (sym on.files)
    (Rose-earlier was.files_before.faults was.files_after.faults now.files_after.faults on.fell_never h on.files_on)
cold_still shards found was now why.NoCache on h = h
cold_still shards found was now why.OtherRows on h = record {
  text = h.text;
  has_text = h.has_text;
  dumps = h.dumps;
  is_cache = h.is_cache;
  wrong = λ some right. h.wrong (on.tells some) (subst (λ (t : Tables). AreRightOn t h.dumps) on.opening right);
}
cold_still shards found was now why.StoreFault on h = let later = on.store_on in omega (arith, h, later)
cold_still shards found was now why.Memory on h = tt

pub begins_still : (path : Option (Vec ℕ Global)) (shards : ℕ) (was now : Beginning) (begun : Begun) → GoesOnFrom was now → BeginsAs path shards was begun
    → BeginsAs path shards now begun
begins_still None shards was now begun on h = h
begins_still (Some path) shards was now cache.New on h = h
begins_still (Some path) shards was now (cache.Cold cause) on h =
    subst (λ (files : FilesSeen). IsCold shards (files.texts path.items) now cause) (sym on.files)
    (cold_still shards (was.files_before.texts path.items) was now cause on h)
begins_still (Some path) shards was now (cache.Warm rows) on h =
    subst (λ (files : FilesSeen). IsTakenOver shards (files.texts path.items) now.rows now.opening rows) (sym on.files)
    (taken_still shards (was.files_before.texts path.items) was now rows on h)

-- a server whose words name the same file begins so too
pub same_begins_as : (found spec : Option (Vec ℕ Global)) (shards : ℕ) (known : Beginning) (begun : Begun) → path_in found ≡ path_in spec
    → BeginsAs found shards known begun → BeginsAs spec shards known begun
same_begins_as None None shards known begun same h = h
same_begins_as None (Some path) shards known begun same h = absurd cc
same_begins_as (Some path) None shards known begun same h = absurd cc
same_begins_as (Some path) (Some other) shards known cache.New same h = h
same_begins_as (Some path) (Some other) shards known (cache.Cold cause) same h =
    let at : path.items ≡ other.items = cc in subst (λ (p : List ℕ). IsCold shards (known.files_before.texts p) known cause) at h
same_begins_as (Some path) (Some other) shards known (cache.Warm rows) same h =
    let at : path.items ≡ other.items = cc in
    subst (λ (p : List ℕ). IsTakenOver shards (known.files_before.texts p) known.rows known.opening rows) at h
