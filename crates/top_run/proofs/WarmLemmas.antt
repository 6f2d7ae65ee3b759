-- Two loads, of which the second takes over what is still right.
use Rattle.std.proofs.Common.{ℕ, zero, suc, ◌≡◌, ◌≤◌, ◌+◌, ◌-◌, List, [], ◌∷◌, All, length, take, drop, refl, sym, ap, subst, ◌∙◌, arith}
use Rattle.std.specs.Prelude.{Bool, true, false, ◌||◌, Option, Some, None, IsSome, is_none, slice_get, option_map}
use Rattle.std.specs.List.{AllByRecursion, list_any}
use Rattle.std.proofs.lemmas.Bool.{false≢true, or_right}
use Rattle.std.proofs.lemmas.List.Elements.{All-weaker}
use Rattle.std.proofs.lemmas.Option.{slice_get-map}
use Rattle.rows_model.specs.declared.keys.QKey.{QKey}
use Rattle.rows_model.specs.declared.keys.Sid.{Sid}
use Rattle.rows_model.specs.Changes.{touches}
use Rattle.rows_model.specs.Query.{answer}
use Rattle.rows_model.specs.Rows.{Tables}
use Rattle.key_shard.specs.declared.steps.Step.{Step}
use Rattle.key_shard.specs.Answers.{Legal}
use Rattle.shard_lock.specs.Names.{AreLegal}
use Rattle.key_shard.specs.Past.{entry}
use Rattle.key_shard.specs.Shards.{ShardView}
use Rattle.sql_keeper.specs.declared.stores.Commit.{Commit}
use Rattle.sql_keeper.specs.Log.{rows_after, state}
use Rattle.sql_keeper.specs.Stores.{StoreView}
use Rattle.session_client.specs.declared.plans.Plan.{Plan}
use Rattle.gate_workers.specs.Rows.{RowView}
use Rattle.key_freshness.proofs.KnownLemmas.{take-whole}
use Rattle.key_freshness.proofs.WriteLemmas.{unmoved}
use Rattle.log_word.specs.declared.seen.Seen.{Seen}
use Rattle.bound_hub.specs.Facts.{IsFirst, answer_after}
use Rattle.bound_hub.specs.Parts.{IsLeft}
use Rattle.bound_hub.specs.Ties.{IsNewShard, IsNewStore}
use Rattle.bound_hub.specs.TrueLogs.{IsTrueLog}
use Rattle.bound_hub.proofs.TrueLogLemmas.{lawful_to_refresh}
use Rattle.run_audit.specs.Findings.{histories_in}
use Rattle.shard_dump.specs.Dumps.{is_touched}
use Rattle.top_run.specs.Works.{names, HaveRun, HaveSessions, IsNamedIn}
use Rattle.top_run.specs.Warming.{AreRight, HaveRunSince, IsRightBehind, KeepsAnswers, since_of, since_in}

-- ---- entries that no later commit touches

-- where none of these has it, an element hasn't
none_has : {X : Type 0} (p : X → Bool) (xs : List X) (place : ℕ) (x : X) → list_any p xs ≡ false → slice_get xs place ≡ Some x → p x ≡ true → ⊥
none_has p [] place x none is has = absurd cc
none_has p (first ∷ xs) zero x none is has =
    let same : first ≡ x = cc in
    false≢true (sym none ∙ (λ i. subst (λ y. p y ≡ true) (sym same) has i || list_any p xs))
none_has p (first ∷ xs) (suc place) x none is has = none_has p xs place x (rest (p first) (list_any p xs) none) is has
  where
    rest : (a b : Bool) → (a || b) ≡ false → b ≡ false
    rest true b h = absurd (false≢true (sym h))
    rest false b h = h

-- what stands at a place stands behind those before it
behind_at : {X : Type 0} (xs : List X) (n place : ℕ) (x : X) → slice_get xs place ≡ Some x → n ≤ place → slice_get (drop n xs) (place - n) ≡ Some x
behind_at [] n place x is above = absurd cc
behind_at (first ∷ xs) zero place x is above =
    let e : place - zero ≡ place = omega arith in
    ap (λ m. slice_get (first ∷ xs) m) e ∙ is
behind_at (first ∷ xs) (suc n) zero x is above = absurd (omega (arith, above))
behind_at (first ∷ xs) (suc n) (suc place) x is above =
    let e : suc place - suc n ≡ place - n = omega arith in
    ap (λ m. slice_get (drop n xs) m) e ∙ behind_at xs n place x is (omega (arith, above))

-- the answer to a key after so many commits is the one after all, where no commit behind them touches it
pub still_answer : (opening : Tables) (log : List Commit) → IsTrueLog opening log → (key : QKey) (stamp : ℕ) → stamp ≤ length log
    → is_touched log key stamp ≡ false → answer key (rows_after opening log) ≡ answer key (state opening log stamp)
still_answer opening log true_log key stamp within none =
    let p : Commit → Bool = λ commit. touches commit.txn key in
    let e : stamp + (length log - stamp) ≡ length log = omega (arith, within) in
    let whole : take (stamp + (length log - stamp)) log ≡ log = ap (λ n. take n log) e ∙ take-whole log in
    ap (λ (l : List Commit). answer key (rows_after opening l)) (sym whole)
    ∙ unmoved key (answer_after opening key) log stamp (length log - stamp) (lawful_to_refresh opening log true_log key).leaves
    (omega (arith, e))
    (λ place commit at from below touched. none_has p (drop stamp log) (place - stamp) commit none (behind_at log stamp place commit at from) touched)

-- so entries of a hub that is taken apart are right
pub left_right : (opening : Tables) (before : ℕ → List Step) (store : StoreView) (seen : Seen) (shards : List ShardView)
    → All (IsLeft opening before store seen) shards → IsSome store.known_rows → IsTrueLog opening store.ledger.log → AreRight opening store.ledger.log shards
left_right opening before store seen shards left some true_log =
    All-weaker (IsLeft opening before store seen) (IsRightBehind opening store.ledger.log)
    (λ shard h. λ key value stamp home is none.
    let kept = h.entries key value stamp home is in
    kept.right some ∙ sym (still_answer opening store.ledger.log true_log key stamp kept.within none)) shards left

nothing_taken : {X : Type 0} (xs : List X) → take 0 xs ≡ []
nothing_taken [] = refl
nothing_taken (x ∷ xs) = refl

-- by such a log a key that no commit touches keeps its answer
pub answers_kept : (opening : Tables) (log : List Commit) → IsTrueLog opening log → KeepsAnswers opening log
answers_kept opening log true_log key none n within =
    let p : Commit → Bool = λ commit. touches commit.txn key in
    let e : 0 + n ≡ n = omega arith in
    ap (λ m. answer key (state opening log m)) (sym e)
    ∙ unmoved key (answer_after opening key) log 0 n (lawful_to_refresh opening log true_log key).leaves (omega (arith, within))
    (λ place commit at from below touched. none_has p log place commit none at touched)
    ∙ ap (λ (l : List Commit). answer key (rows_after opening l)) (nothing_taken log)

-- and by one without a commit
pub none_moved : (opening : Tables) (log : List Commit) → log ≡ [] → KeepsAnswers opening log
none_moved opening log none = subst (KeepsAnswers opening) (sym none) (λ key untouched n within. by key n)
  where
    by : (key : QKey) (n : ℕ) → answer key (state opening [] n) ≡ answer key opening
    by key zero = refl
    by key (suc n) = refl

some_told : (known_rows : Option Tables) → IsSome known_rows → is_none known_rows ≡ false
some_told None some = absurd (false≢true some)
some_told (Some rows) some = refl

-- and those of one that was never made
pub new_right : (opening : Tables) (before : ℕ → List Step) (store given : StoreView) (shards : List ShardView) (begun failed : ℕ)
    → store ≡ given → IsNewStore begun failed given → All (IsNewShard opening before (is_none given.known_rows)) shards → IsSome store.known_rows
    → AreRight opening store.ledger.log shards
new_right opening before store given shards begun failed same new are some =
    let is_so : is_none given.known_rows ≡ false = some_told given.known_rows (subst (λ (s : StoreView). IsSome s.known_rows) same some) in
    let log : store.ledger.log ≡ [] = ap (λ (s : StoreView). s.ledger.log) same ∙ new.none in
    All-weaker (IsNewShard opening before (is_none given.known_rows)) (IsRightBehind opening store.ledger.log)
    (λ shard h. λ key value stamp home is none.
    let first : IsFirst opening (is_none given.known_rows) key (Some (value, stamp)) =
    subst (IsFirst opening (is_none given.known_rows) key) (ap (entry key) (sym h.past_is) ∙ is) (h.entries key) in
    first.1 is_so ∙ ap (λ (l : List Commit). answer key (rows_after opening l)) (sym log)) shards are

-- ---- the sessions of a load

-- where nothing was there before, the steps since are all
pub since_none : (before : ℕ → List Step) (shards : List ShardView) → ((place : ℕ) → before place ≡ []) → since_in before shards ≡ histories_in shards
since_none before [] none = refl
since_none before (shard ∷ shards) none =
    let one : since_of before shard ≡ shard.history = ap (λ (l : List Step). drop (length l) shard.history) (none shard.terms.no) ∙ all_of shard.history in
    λ i. one i ∷ since_none before shards none i
  where
    all_of : (steps : List Step) → drop 0 steps ≡ steps
    all_of [] = refl
    all_of (s ∷ steps) = refl

-- a load whose sessions the steps since tell of, which are all
pub ran_whole : (plans : List (List Plan)) (histories since : List (List Step)) (transcripts : List (List RowView)) → since ≡ histories
    → HaveRunSince plans histories since transcripts → HaveRun plans histories transcripts
ran_whole plans histories since transcripts same h = record {
  before = h.before;
  after = h.after;
  work = h.work;
  sessions = λ unspent. subst (HaveSessions plans) same (h.sessions unspent);
}

-- ---- a session that is named in a part is named in the whole

any_dropped : {X : Type 0} (p : X → Bool) (n : ℕ) (xs : List X) → list_any p (drop n xs) ≡ true → list_any p xs ≡ true
any_dropped p zero [] h = h
any_dropped p zero (x ∷ xs) h = h
any_dropped p (suc n) [] h = h
any_dropped p (suc n) (x ∷ xs) h = or_right (p x) (list_any p xs) (any_dropped p n xs h)

unmapped : (f : ShardView → List Step) (o : Option ShardView) (steps : List Step) → option_map f o ≡ Some steps
    → (shard : ShardView) × (o ≡ Some shard) × (f shard ≡ steps)
unmapped f None steps is = absurd cc
unmapped f (Some shard) steps is = (shard, refl, cc)

named_in_all : (before : ℕ → List Step) (shards : List ShardView) (who : Sid) → IsNamedIn (since_in before shards) who → IsNamedIn (histories_in shards) who
named_in_all before shards who h =
    let there = unmapped (since_of before) (slice_get shards h.place) h.history (sym (slice_get-map (since_of before) shards h.place) ∙ h.there) in
    let shard = there.0 in
    record {
      place = h.place;
      history = shard.history;
      there = slice_get-map (λ (s : ShardView). s.history) shards h.place ∙ ap (λ (o : Option ShardView). option_map (λ (s : ShardView). s.history) o) there.1;
      named = any_dropped (names who) _ shard.history (subst (λ (steps : List Step). list_any (names who) steps ≡ true) (sym there.2) h.named);
    }

all_named : (before : ℕ → List Step) (shards : List ShardView) (sids : List Sid) → AllByRecursion (IsNamedIn (since_in before shards)) sids
    → AllByRecursion (IsNamedIn (histories_in shards)) sids
all_named before shards [] h = tt
all_named before shards (who ∷ sids) h = (named_in_all before shards who h.0, all_named before shards sids h.1)

-- so a load whose sessions the steps since tell of is one whose sessions the histories tell of
pub ran_all : (before : ℕ → List Step) (shards : List ShardView) (plans : List (List Plan)) (transcripts : List (List RowView))
    → HaveRunSince plans (histories_in shards) (since_in before shards) transcripts → HaveRun plans (histories_in shards) transcripts
ran_all before shards plans transcripts h = record {
  before = h.before;
  after = h.after;
  work = h.work;
  sessions = λ unspent.
      let have = h.sessions unspent in
      record { sids = have.sids; as_many = have.as_many; differ = have.differ; named = all_named before shards have.sids have.named };
}

-- ---- shards that have made no step

-- their histories are legal
pub unused_legal : (shards : List ShardView) → All (λ shard. shard.history ≡ []) shards → AreLegal shards
unused_legal shards new =
    All-weaker (λ (shard : ShardView). shard.history ≡ []) (λ (shard : ShardView). Legal shard.terms shard.history)
    (λ shard none. subst (λ (history : List Step). Legal shard.terms history) (sym none) tt) shards new
