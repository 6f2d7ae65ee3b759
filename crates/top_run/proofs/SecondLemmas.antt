-- What a second load leaves: it goes on from what was loaded, and its hits have the values that were taken over.
use Rattle.std.proofs.Common.{ℕ, suc, ◌≡◌, ◌≤◌, ◌<◌, ◌+◌, ◌*◌, ◌^◌, List, [], ◌∷◌, ◌++◌, All, length, map, reverse, drop, refl, sym, ap, subst, ◌∙◌, inl, inr, arith}
use Rattle.std.specs.Prelude.{Bool, true, false, ◌⊎◌, Option, Some, None, IsSome, is_none, slice_get, option_map, unwrap_or}
use Rattle.std.specs.List.{AllByRecursion, list_any}
use Rattle.std.specs.Option.{ForSome}
use Rattle.std.proofs.lemmas.List.{length-map, length-reverse, reverse-append, reverse-reverse}
use Rattle.std.proofs.lemmas.List.Elements.{All-get_or}
use Rattle.std.proofs.lemmas.Option.{slice_get-map, slice_get_within, get_or_from_slice_get}
use Rattle.rows_model.specs.declared.keys.QKey.{QKey}
use Rattle.rows_model.specs.declared.keys.Sid.{Sid}
use Rattle.rows_model.specs.Changes.{touches}
use Rattle.rows_model.specs.Query.{answer}
use Rattle.rows_model.specs.Rows.{Tables}
use Rattle.rows_model.proofs.SameKey.{same_key-true}
use Rattle.key_shard.specs.declared.steps.Step.{Step}
use Rattle.key_shard.specs.declared.steps.Step.TheVariants as step
use Rattle.key_shard.specs.Answers.{IsAtHome}
use Rattle.key_shard.specs.Past.{Terms}
use Rattle.key_shard.specs.Shards.{ShardView, past_of}
use Rattle.key_freshness.proofs.KnownLemmas.{stands-within}
use Rattle.sql_keeper.specs.declared.stores.Commit.{Commit}
use Rattle.sql_keeper.specs.Fresh.{Fresh, IsFreshPast}
use Rattle.sql_keeper.specs.Log.{state}
use Rattle.sql_keeper.specs.Stores.{StoreView}
use Rattle.log_word.specs.Passes.{WordView, blind_pass, blind_shard_passes}
use Rattle.shard_lock.specs.Names.{AreAll, IsNamed}
use Rattle.bound_hub.specs.Ties.{IsNewShard}
use Rattle.run_audit.specs.Findings.{histories_in}
use Rattle.run_inputs.specs.declared.loads.WorkSpec.{WorkSpec}
use Rattle.run_inputs.specs.Loads.{IsWork}
use Rattle.shard_dump.specs.declared.rows.DumpRow.{DumpRow}
use Rattle.shard_dump.specs.Dumps.{dump_of}
use Rattle.shard_dump.specs.Loads.{loaded_steps}
use Rattle.core_history.specs.Machine.{log_cap}
use Rattle.top_run.specs.declared.hubs.Parts.{Parts}
use Rattle.top_run.specs.declared.runs.Phase.{Phase}
use Rattle.top_run.specs.declared.dumps.Dumped.{Dumped}
use Rattle.top_run.specs.declared.works.Ready.{Ready}
use Rattle.top_run.specs.Ready.{AreParts, MakeHub}
use Rattle.top_run.specs.Runs.{Left}
use Rattle.top_run.specs.Works.{hub_terms, work_shape}
use Rattle.top_run.specs.Warms.{BeginsLoaded, HasValueOf, HaveTakenOver, HitsHaveValues, dumps_from, dumps_in, next_load, rows_in, steps_behind}
use Rattle.top_run.specs.Warming.{AreDumped, AreToLoad, CanLoadAll, GoesOn, IsAnew, IsHalf, IsReadyAnew, KeepsAnswers, KeepsOn, NamesAnew, before_of, left_by, rows_left, since_in, since_of}
use Rattle.top_run.proofs.AnewLemmas.{IsAt, all_loaded, at, begins_at, new_loaded}
use Rattle.top_run.proofs.WarmEnds.{all_alike}

-- ---- hits on a key that nothing moves

-- what holds of each step holds of each in the other order
one_more : (P : Step → Type 0) (steps : List Step) (one : Step) → AllByRecursion P steps → P one → AllByRecursion P (steps ++ one ∷ [])
one_more P [] one all is = (is, tt)
one_more P (first ∷ steps) one all is = (all.0, one_more P steps one all.1 is)

turned : (P : Step → Type 0) (steps : List Step) → AllByRecursion P steps → AllByRecursion P (reverse steps)
turned P [] all = tt
turned P (one ∷ steps) all =
    subst (AllByRecursion P) (sym (reverse-append (one ∷ []) steps)) (one_more P (reverse steps) one (turned P steps all.1) all.0)

module _ (opening : Tables) (later : List Commit) (keeps : KeepsAnswers opening later) (row : DumpRow) (right : row.value ≡ answer row.key opening)
    (none : list_any (λ (commit : Commit). touches commit.txn row.key) later ≡ false) where
  valued : (one : Step) (past : List Step) → IsFreshPast opening later (one ∷ past) → HasValueOf row one
  valued (step.Hit key sid floor value stamp) past fresh = λ same.
      fresh.0.right ∙ ap (λ (k : QKey). answer k (state opening later stamp)) (same_key-true key row.key same)
      ∙ keeps row.key none stamp fresh.0.known ∙ sym right
  valued other past fresh = tt

  all_valued : (past : List Step) → IsFreshPast opening later past → AllByRecursion (HasValueOf row) past
  all_valued [] fresh = tt
  all_valued (one ∷ past) fresh = (valued one past fresh, all_valued past fresh.1)

  pub history_valued : (history : List Step) → IsFreshPast opening later (reverse history) → AllByRecursion (HasValueOf row) history
  history_valued history fresh =
      subst (AllByRecursion (HasValueOf row)) (reverse-reverse history) (turned (HasValueOf row) (reverse history) (all_valued (reverse history) fresh))

-- ---- the steps behind the loaded ones

length_loaded : (terms : Terms) (who : Sid) (now token : ℕ) (rows : List DumpRow) → length (loaded_steps terms who now token rows) ≡ 2 * length rows
length_loaded terms who now token [] = refl
length_loaded terms who now token (row ∷ rows) =
    let rest = length_loaded terms who now (token + 1) rows in
    omega (arith, rest)

-- where each history begins with two steps for each row, those since are those behind
since_behind : (before : ℕ → List Step) (log : List Commit) (firsts : List (List Step)) (shards : List ShardView) → length firsts ≡ length shards
    → ((place : ℕ) (first : List Step) (shard : ShardView) → slice_get firsts place ≡ Some first → slice_get shards place ≡ Some shard
    → length (before shard.terms.no) ≡ 2 * length (rows_in log first))
    → since_in before shards ≡ steps_behind log firsts (histories_in shards)
since_behind before log [] [] many each = refl
since_behind before log [] (shard ∷ shards) many each = absurd cc
since_behind before log (first ∷ firsts) [] many each = absurd cc
since_behind before log (first ∷ firsts) (shard ∷ shards) many each =
    let one : since_of before shard ≡ drop (2 * length (rows_in log first)) shard.history = ap (λ n. drop n shard.history) (each 0 first shard refl refl) in
    let rest = since_behind before log firsts shards (omega (arith, many)) (λ place f s at here. each (suc place) f s at here) in
    λ i. one i ∷ rest i

-- ---- the dumps are those of what was left

dumps_are_from : (log : List Commit) (count place : ℕ) (shards : List ShardView) (dumps : List Dumped) → length dumps ≡ length shards
    → ((i : ℕ) (shard : ShardView) (dumped : Dumped) → slice_get shards i ≡ Some shard → slice_get dumps i ≡ Some dumped → dumped.dump ≡ dump_of log shard)
    → ((i : ℕ) (shard : ShardView) → slice_get shards i ≡ Some shard → (shard.terms.no ≡ place + i) × (shard.terms.count ≡ count))
    → map (λ (dumped : Dumped). dumped.dump) dumps ≡ dumps_from count log place (histories_in shards)
dumps_are_from log count place [] [] many each numbered = refl
dumps_are_from log count place [] (dumped ∷ dumps) many each numbered = absurd cc
dumps_are_from log count place (shard ∷ shards) [] many each numbered = absurd cc
dumps_are_from log count place (shard ∷ shards) (dumped ∷ dumps) many each numbered =
    let here = numbered 0 shard refl in
    let number = here.0 in
    let at : shard.terms.no ≡ place = omega (arith, number) in
    let one : dumped.dump ≡ record { shard = place; count = count; rows = rows_in log shard.history } =
    each 0 shard dumped refl refl
    ∙ (λ i. record { shard = at i; count = here.1 i; rows = rows_in log shard.history }) in
    let rest = dumps_are_from log count (suc place) shards dumps (omega (arith, many)) (λ i s d there is. each (suc i) s d there is)
    (λ i s there. let next = numbered (suc i) s there in let number = next.0 in (omega (arith, number), next.1)) in
    λ i. one i ∷ rest i

pub dumps_are_in : (spec : WorkSpec) (store : StoreView) (shards : List ShardView) (dumps : List Dumped) → AreAll (hub_terms (work_shape spec) false) shards
    → AreDumped store.ledger.log shards dumps → map (λ (dumped : Dumped). dumped.dump) dumps ≡ dumps_in (left_by store shards)
dumps_are_in spec store shards dumps all are =
    dumps_are_from store.ledger.log (length (histories_in shards)) 0 shards dumps are.as_many
    (λ i shard dumped there here. (are.each i shard dumped there here).dump_is)
    (λ i shard there. (
      (let placed = all.placed i shard there in omega (arith, placed)),
      at_place (λ (s : ShardView). s.terms.count ≡ length shards) shards i shard all.counted there ∙ sym (length-map shards (λ (s : ShardView). s.history)),
    ))
  where
    at_place : (P : ShardView → Type 0) (shards : List ShardView) (place : ℕ) (shard : ShardView) → All P shards → slice_get shards place ≡ Some shard → P shard
    at_place P shards place shard all is =
        subst P (get_or_from_slice_get shards place shard shard is) (All-get_or P shards place shard (slice_get_within shards place shard is) all)

-- ---- the rows to load are those that are left

same_rows : (log : List Commit) (firsts : List (List Step)) (dumps : List Dumped) → length dumps ≡ length firsts
    → ((i : ℕ) (first : List Step) (dumped : Dumped) → slice_get firsts i ≡ Some first → slice_get dumps i ≡ Some dumped → dumped.dump.rows ≡ rows_in log first)
    → map (λ (dumped : Dumped). dumped.dump.rows) dumps ≡ map (rows_in log) firsts
same_rows log [] [] many each = refl
same_rows log [] (dumped ∷ dumps) many each = absurd cc
same_rows log (first ∷ firsts) [] many each = absurd cc
same_rows log (first ∷ firsts) (dumped ∷ dumps) many each =
    let one : dumped.dump.rows ≡ rows_in log first = each 0 first dumped refl refl in
    let rest = same_rows log firsts dumps (omega (arith, many)) (λ i f d there here. each (suc i) f d there here) in
    λ i. one i ∷ rest i

pub rows_are_left : (spec : WorkSpec) (left : Left) (known_rows : Option Tables) (opening : Tables) (dumps : List Dumped) → AreToLoad spec left known_rows opening dumps
    → map (λ (dumped : Dumped). dumped.dump.rows) dumps ≡ rows_left left
rows_are_left spec left known_rows opening dumps are =
    same_rows left.log left.histories dumps (are.as_many ∙ sym are.histories) (λ i first dumped there here. (are.each i first dumped there here).rows_are)

-- and they can be loaded into new shards
pub can_load_all : (spec : WorkSpec) (left : Left) (known_rows : Option Tables) (opening : Tables) (dumps : List Dumped) (parts : Parts)
    → AreToLoad spec left known_rows opening dumps → AreParts (work_shape spec) (hub_terms (work_shape spec) false) parts
    → CanLoadAll known_rows opening dumps parts.hub.shards.items
can_load_all spec left known_rows opening dumps parts are made = record {
  as_many = are.as_many ∙ sym made.as_many;
  each = λ place shard dumped there here.
      let below = slice_get_within parts.hub.shards.items place shard there in
      let history = stands-within left.histories place (subst (λ n. place < n) (made.as_many ∙ sym are.histories) below) in
      let to = are.each place history.0 dumped history.1 here in
      let terms : shard.terms ≡ hub_terms (work_shape spec) false place =
      at_place (IsNamed (hub_terms (work_shape spec) false)) parts.hub.shards.items place shard made.shards.named there
      ∙ ap (hub_terms (work_shape spec) false) (made.shards.placed place shard there) in
      let at : (P : Terms → Type 0) → P (hub_terms (work_shape spec) false place) → P shard.terms = λ P h. subst P (sym terms) h in
      record {
        new = at_place (λ (s : ShardView). s.history ≡ []) parts.hub.shards.items place shard made.new there;
        none_out = at_place (λ (s : ShardView). s.out ≡ []) parts.hub.shards.items place shard made.none_out there;
        from_one = at (λ t. t.first ≡ 1) refl;
        lively = at (λ t. 1 ≤ t.life) (omega arith);
        home = at (λ t. All (λ (row : DumpRow). IsAtHome t row.key) dumped.dump.rows) to.home;
        differ = to.differ;
        room = at (λ t. length dumped.dump.rows ≤ t.room) to.room;
        few = at (λ t. t.room < 2 ^ 32) (omega arith);
        answers = to.answers;
      };
}
  where
    at_place : (P : ShardView → Type 0) (shards : List ShardView) (place : ℕ) (shard : ShardView) → All P shards → slice_get shards place ≡ Some shard → P shard
    at_place P shards place shard all is =
        subst P (get_or_from_slice_get shards place shard shard is) (All-get_or P shards place shard (slice_get_within shards place shard is) all)

-- ---- what the second load leaves

some_same : {X : Type 0} (x y : X) → Some x ≡ Some y → x ≡ y
some_same {X = X} x y is = ap (λ (o : Option X). unwrap_or o x) is

module _ (spec : WorkSpec) (known_rows : Option Tables) (opening : Tables) (first : Left) (ready : Ready)
    (is_ready : IsReadyAnew spec known_rows opening (rows_left first) ready)
    (before : ℕ → List Step) (before_is : (place : ℕ) → before place ≡ before_of ready.parts.hub.shards.items place) where
  abbrev news : List ShardView
  news = ready.parts.hub.shards.items

  abbrev AtPlace : ℕ → ShardView → Type 0
  AtPlace place new = IsAt known_rows opening is_ready.dumps is_ready.olds news is_ready.loaded is_ready.many place new

  -- the rows that were loaded at a place are those that are dumped of the first history there
  rows_at : (place : ℕ) (new : ShardView) (history : List Step) (one : AtPlace place new) → slice_get first.histories place ≡ Some history
      → one.dumped.dump.rows ≡ rows_in first.log history
  rows_at place new history one there =
      let f : Dumped → List DumpRow = λ dumped. dumped.dump.rows in
      some_same one.dumped.dump.rows (rows_in first.log history)
      (ap (λ (o : Option Dumped). option_map f o) (sym one.here) ∙ sym (slice_get-map f is_ready.dumps place)
      ∙ ap (λ (rows : List (List DumpRow)). slice_get rows place) is_ready.rows_are
      ∙ slice_get-map (rows_in first.log) first.histories place ∙ ap (λ (o : Option (List Step)). option_map (rows_in first.log) o) there)

  many_news : length news ≡ spec.shards
  many_news = is_ready.loaded.as_many ∙ is_ready.as_many

  found : (place : ℕ) → place < spec.shards → (new : ShardView) × (slice_get news place ≡ Some new)
  found place below = stands-within news place (subst (λ n. place < n) (sym many_news) below)

  at_new : (place : ℕ) (new : ShardView) → slice_get news place ≡ Some new → AtPlace place new
  at_new = at known_rows opening is_ready.dumps is_ready.olds news is_ready.loaded is_ready.many

  before_at : (place : ℕ) (new : ShardView) → slice_get news place ≡ Some new → before place ≡ past_of new
  before_at place new here =
      before_is place
      ∙ ap (λ (o : Option (List Step)). unwrap_or o []) (slice_get-map past_of news place ∙ ap (λ (o : Option ShardView). option_map past_of o) here)

  -- two steps for each row
  two_each : (place : ℕ) (history : List Step) → place < spec.shards → slice_get first.histories place ≡ Some history
      → length (before place) ≡ 2 * length (rows_in first.log history)
  two_each place history below there =
      let new = found place below in
      let one = at_new place new.0 new.1 in
      ap (λ (l : List Step). length l) (before_at place new.0 new.1) ∙ length-reverse new.0.history
      ∙ ap (λ (l : List Step). length l) one.is.steps
      ∙ length_loaded new.0.terms one.is.who one.is.now new.0.terms.first one.dumped.dump.rows
      ∙ ap (λ (rows : List DumpRow). 2 * length rows) (rows_at place new.0 history one there)

  module _ (shards : List ShardView) (all : AreAll (hub_terms (work_shape spec) false) shards) (as_many : length shards ≡ spec.shards) where
    below_all : (place : ℕ) (shard : ShardView) → slice_get shards place ≡ Some shard → place < spec.shards
    below_all place shard is = subst (λ n. place < n) as_many (slice_get_within shards place shard is)

    at_shard : (P : ShardView → Type 0) (place : ℕ) (shard : ShardView) → All P shards → slice_get shards place ≡ Some shard → P shard
    at_shard P place shard each is =
        subst P (get_or_from_slice_get shards place shard shard is) (All-get_or P shards place shard (slice_get_within shards place shard is) each)

    -- the steps since are those behind the loaded ones
    pub behind_loaded : length first.histories ≡ spec.shards → since_in before shards ≡ steps_behind first.log first.histories (histories_in shards)
    behind_loaded many =
        since_behind before first.log first.histories shards (many ∙ sym as_many)
        (λ place history shard there is.
        ap (λ n. length (before n)) (all.placed place shard is) ∙ two_each place history (below_all place shard is) there)

    history_at : (place : ℕ) (second : List Step) → slice_get (histories_in shards) place ≡ Some second
        → (shard : ShardView) × (slice_get shards place ≡ Some shard) × (shard.history ≡ second)
    history_at place second is = by (slice_get shards place) refl
      where
        by : (o : Option ShardView) → slice_get shards place ≡ o → (shard : ShardView) × (slice_get shards place ≡ Some shard) × (shard.history ≡ second)
        by None none =
            absurd (none_some second (ap (λ (o : Option ShardView). option_map (λ (s : ShardView). s.history) o) (sym none)
            ∙ sym (slice_get-map (λ (s : ShardView). s.history) shards place) ∙ is))
          where
            none_some : (x : List Step) → None ≡ Some x → ⊥
            none_some x is = absurd cc
        by (Some shard) here = (
          shard,
          here,
          some_same shard.history second (ap (λ (o : Option ShardView). option_map (λ (s : ShardView). s.history) o) (sym here)
              ∙ sym (slice_get-map (λ (s : ShardView). s.history) shards place) ∙ is),
        )

    -- each second history begins with the rows that were taken over
    pub taken_over : All (GoesOn before) shards → HaveTakenOver (work_shape spec) first.log first.histories (histories_in shards)
    taken_over goes place history second there is =
        let shard = history_at place second is in
        let new = found place (below_all place shard.0 shard.1) in
        let one = at_new place new.0 new.1 in
        subst (BeginsLoaded (hub_terms (work_shape spec) false place) (rows_in first.log history)) shard.2
        (begins_at known_rows opening is_ready.dumps is_ready.olds news is_ready.loaded is_ready.many (hub_terms (work_shape spec) false) is_ready.all before before_is
        place new.0 shard.0 (rows_in first.log history) new.1 (all.placed place shard.0 shard.1)
        (at_shard (GoesOn before) place shard.0 goes shard.1) one (rows_at place new.0 history one there))

    -- and a hit on one of them has its value, unless a commit touches its key
    pub hits_valued : (later : List Commit) → IsSome known_rows → KeepsAnswers opening later → Fresh opening later (histories_in shards)
        → HitsHaveValues first.log first.histories later (histories_in shards)
    hits_valued later some keeps fresh place history second there is i row at_row =
        by (list_any (λ (commit : Commit). touches commit.txn row.key) later) refl
      where
        right : row.value ≡ answer row.key opening
        right =
            let shard = history_at place second is in
            let new = found place (below_all place shard.0 shard.1) in
            let one = at_new place new.0 new.1 in
            let rows = one.dumped.dump.rows in
            let here : slice_get rows i ≡ Some row = ap (λ (l : List DumpRow). slice_get l i) (rows_at place new.0 history one there) ∙ at_row in
            subst (λ (r : DumpRow). r.value ≡ answer r.key opening) (get_or_from_slice_get rows i row row here)
            (All-get_or (λ (r : DumpRow). r.value ≡ answer r.key opening) rows i row (slice_get_within rows i row here) (one.is.answers some))

        fresh_there : IsFreshPast opening later (reverse second)
        fresh_there =
            let P : List Step → Type 0 = λ h. IsFreshPast opening later (reverse h) in
            subst P (get_or_from_slice_get (histories_in shards) place second second is)
            (All-get_or P (histories_in shards) place second (slice_get_within (histories_in shards) place second is) fresh)

        by : (b : Bool) → list_any (λ (commit : Commit). touches commit.txn row.key) later ≡ b
            → (list_any (λ (commit : Commit). touches commit.txn row.key) later ≡ true) ⊎ AllByRecursion (HasValueOf row) second
        by true touched = inl touched
        by false none = inr (history_valued opening later keeps row right none second fresh_there)

  -- ---- the hub of the second load

  pub make_anew : (store : StoreView) (count start : Option ℕ) (terms : ℕ → Terms) (named_opening : Tables) (cap : ℕ) (named_rows : Option Tables)
      (name parts : ℕ) (word : WordView) (begun failed : ℕ) → spec.shards ≤ 64 → store.ledger.opening ≡ opening → store.known_rows ≡ known_rows
      → NamesAnew (work_shape spec) false store count start terms named_opening cap named_rows name parts word before begun failed ready.parts.hub
      → MakeHub terms named_opening before (is_none store.known_rows) name parts word ready.parts.hub
  make_anew store count start terms named_opening cap named_rows name parts word begun failed few same told names =
      let shape = hub_terms (work_shape spec) false in
      let all = all_loaded known_rows opening is_ready.dumps is_ready.olds news is_ready.loaded is_ready.many shape is_ready.all in
      let many = many_news in
      record {
        all = all_alike shape terms news (λ place. sym (names.terms_are place)) all;
        new = subst (λ (rows : Option Tables). All (IsNewShard named_opening before (is_none rows)) news) (sym told)
            (subst (λ (t : Tables). All (IsNewShard t before (is_none known_rows)) news) (sym same ∙ names.opening_is)
            (new_loaded known_rows opening is_ready.dumps is_ready.olds news is_ready.loaded is_ready.many shape is_ready.all before before_is (λ place. refl)));
        few = omega (arith, many, few);
        is_named = names.ledger;
        one_each = is_ready.one_each ∙ sym many;
        word_is = names.word_is;
        of_shards = ap (λ (w : WordView). w.shards) (sym names.word_is) ∙ is_ready.word.of_shards ∙ sym many;
        store_pass = is_ready.word.store_pass ∙ ap blind_pass names.word_is;
        shard_passes = is_ready.word.shard_passes ∙ ap (λ (w : WordView). blind_shard_passes w spec.shards) names.word_is
            ∙ ap (λ (n : ℕ). blind_shard_passes word n) (sym many);
        caller = is_ready.word.caller ∙ ap blind_pass names.word_is;
      }

-- ---- the load behind this one

-- its numbers are in their ranges too
pub next_works : (spec : WorkSpec) → IsWork spec → IsWork (next_load spec)
next_works spec h = record {
  some_members = h.some_members;
  few_members = h.few_members;
  few_sessions = h.few_sessions;
  some_workers = h.some_workers;
  few_workers = h.few_workers;
  some_shards = h.some_shards;
  few_shards = h.few_shards;
}

-- and what can be loaded for this one can be for that one
pub next_to_load : (spec : WorkSpec) (left : Left) (known_rows : Option Tables) (opening : Tables) (dumps : List Dumped)
    → AreToLoad spec left known_rows opening dumps → AreToLoad (next_load spec) left known_rows opening dumps
next_to_load spec left known_rows opening dumps h = record { as_many = h.as_many; histories = h.histories; each = h.each }

-- ---- a store that was made anew, of which only sessions that read have begun since

pub anew_still : (most : ℕ) (old new : StoreView) → KeepsOn old new → IsAnew most old → IsAnew most new
anew_still most old new keeps h = record {
  no_log = keeps.log_is ∙ h.no_log;
  cap_is = keeps.cap_is ∙ h.cap_is;
  none_open = keeps.none_open h.none_open;
  told_is =
      subst (λ (rows : Option Tables). ForSome rows (λ known. known ≡ new.ledger.opening)) (sym keeps.told_is)
      (subst (λ (t : Tables). ForSome old.known_rows (λ known. known ≡ t)) (sym keeps.opening_is) h.told_is);
}

pub half_still : (opening : Tables) (old new : StoreView) (earlier : List Phase) (spent : Option ℕ) → KeepsOn old new
    → IsHalf opening old earlier spent → IsHalf opening new earlier spent
half_still opening old new earlier spent keeps h = record {
  only = h.only;
  anew = anew_still log_cap old new keeps h.anew;
  opening_is = keeps.opening_is ∙ h.opening_is;
  spent_is = h.spent_is;
}
