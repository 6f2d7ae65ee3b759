-- What loading a row makes of a shard, and so what loading rows does.
use Rattle.std.proofs.Common.{ℕ, ◌≡◌, ◌≢◌, ◌<◌, ◌≤◌, ◌+◌, ◌-◌, ◌^◌, ◌==◌, inl, inr, Bool, true, false, cond, nat_lt, List, [], ◌∷◌, ◌++◌, length, reverse, map, find, filter, get_or, Option, Some, None, option_map, is_some}
use Rattle.std.proofs.Common.{arith, refl, sym, ap, subst, ◌∙◌, append-nil, append_assoc, length-append}
use Rattle.std.specs.Prelude.{All, AllPairs, IsSome, take}
use Rattle.std.specs.Option.{option_or}
use Rattle.std.proofs.lemmas.Bool.{and_from, cond-false, eq-eqb, lt-ltb, ltb-true, ltb-false}
use Rattle.std.proofs.lemmas.List.{reverse-append, length-reverse, length-map, get_or_append_left}
use Rattle.std.proofs.lemmas.List.Elements.{All-head, All-tail, All-more}
use Rattle.std.proofs.lemmas.List.Folds.{find-append}
use Rattle.std.proofs.lemmas.Option.{slice_get_within, get_or_from_slice_get}
use Rattle.std.proofs.Math.Seq.{get_or-append_seam}
use Rattle.lease_table.specs.Leases.{is_current}
use Rattle.lease_table.proofs.ListLemmas.{filter-all}
use Rattle.rows_model.specs.declared.keys.QKey.{QKey}
use Rattle.rows_model.specs.declared.keys.Sid.{Sid}
use Rattle.rows_model.specs.Key.{same_key}
use Rattle.rows_model.specs.Rows.{Tables}
use Rattle.rows_model.specs.Query.{answer}
use Rattle.rows_model.proofs.SameKey.{same_key-true, same_key-refl}
use Rattle.key_shard.specs.declared.steps.Step.{Step}
use Rattle.key_shard.specs.Past.{Terms, standing, recorded, entry, order, used, each_once, evicts, next_token, deadline_at}
use Rattle.key_shard.specs.Answers.{IsAtHome}
use Rattle.key_shard.specs.Shards.{ShardView, past_of}
use Rattle.key_shard.specs.OneStep.{other_keys}
use Rattle.key_shard.proofs.OneStepLemmas.{next_by, order_by, order-without}
use Rattle.sql_keeper.specs.Stores.{StoreView, with_session, rows_of}
use Rattle.sql_keeper.specs.Log.{rows_after}
use Rattle.shard_dump.specs.declared.rows.DumpRow.{DumpRow}
use Rattle.shard_dump.specs.declared.faults.LoadFault.{LoadFault}
use Rattle.shard_dump.specs.declared.faults.LoadFault.TheVariants as faults
use Rattle.shard_dump.specs.Loads.{IsBlank, IsEmpty, AreAnswers, AreAtHome, AreRight, HasAsked, HasGained, HasLoaded, HasRows, HasTokens, StopsRow, StopsShard, StopsStore, first_lease, next_lease, lease_of, store_of, loaded_entry, loaded_steps, steps_for}

-- ---- steps more

pub gained_both : (xs ys : List Step) (old mid new : ShardView) → HasGained xs old mid → HasGained ys mid new → HasGained (xs ++ ys) old new
gained_both xs ys old mid new a b = record {
  terms = b.terms ∙ a.terms;
  out = b.out ∙ a.out;
  history = b.history ∙ ap (λ (h : List Step). h ++ ys) a.history ∙ append_assoc old.history xs ys;
}

pub past_gained : (steps : List Step) (old new : ShardView) → HasGained steps old new → past_of new ≡ reverse steps ++ past_of old
past_gained steps old new h = ap reverse h.history ∙ reverse-append old.history steps

-- ---- the past with the lease of a key that had none, and then with its value

-- the lease is current
pub lease_current : (terms : Terms) (past : List Step) (who : Sid) (now token : ℕ) (key : QKey) → 1 ≤ terms.life → now < 2 ^ 64 - 1
    → is_current token now (recorded key (lease_of terms who now token key ∷ past)) ≡ true
lease_current terms past who now token key lively small =
    let later : now < deadline_at terms now = omega arith in
    rw (same_key-refl key) (and_from (token == token) (nat_lt now (deadline_at terms now)) (eq-eqb token token refl) (lt-ltb now (deadline_at terms now) later))

leased_order : (terms : Terms) (past : List Step) (who : Sid) (now token : ℕ) (key : QKey) → entry key past ≡ None
    → order (lease_of terms who now token key ∷ past) ≡ order past
leased_order terms past who now token key none = order_by (lease_of terms who now token key) past ∙ order-without past key (ap is_some none)

leased_entry : (terms : Terms) (past : List Step) (who : Sid) (now token : ℕ) (key other : QKey) → entry key past ≡ None
    → entry other (lease_of terms who now token key ∷ past) ≡ entry other past
leased_entry terms past who now token key other none = by (same_key other key) refl
  where
    by : (b : Bool) → same_key other key ≡ b → cond b None (entry other past) ≡ entry other past
    by true e = sym (ap (λ (k : QKey). entry k past) (same_key-true other key e) ∙ none)
    by false e = refl

-- no key has to make room
pub room_left : (terms : Terms) (past : List Step) (who : Sid) (now token : ℕ) (key : QKey) → entry key past ≡ None → length (order past) < terms.room
    → evicts terms key (lease_of terms who now token key ∷ past) ≡ None
room_left terms past who now token key none few =
    let no_entry : entry key (lease_of terms who now token key ∷ past) ≡ None = leased_entry terms past who now token key key none ∙ none in
    let fits : nat_lt (length (order (lease_of terms who now token key ∷ past))) terms.room ≡ true =
    ap (λ (keys : List QKey). nat_lt (length keys) terms.room) (leased_order terms past who now token key none) ∙ lt-ltb (length (order past)) terms.room few in
    simp (no_entry, fits)

-- ---- rows one after another

-- the steps of one row more
steps_more : (terms : Terms) (who : Sid) (now token : ℕ) (rows : List DumpRow) (row : DumpRow)
    → loaded_steps terms who now token (rows ++ row ∷ []) ≡ loaded_steps terms who now token rows ++ loaded_steps terms who now (token + length rows) (row ∷ [])
steps_more terms who now token [] row = ap (λ (n : ℕ). loaded_steps terms who now n (row ∷ [])) (omega arith)
steps_more terms who now token (first ∷ rows) row =
    ap (λ (steps : List Step). lease_of terms who now token first.key ∷ store_of now token first ∷ steps)
    (steps_more terms who now (token + 1) rows row
    ∙ ap (λ (n : ℕ). loaded_steps terms who now (token + 1) rows ++ loaded_steps terms who now n (row ∷ [])) (omega arith))

-- the entry of a row
abbrev pair_of : DumpRow → List ℕ × ℕ
pair_of row = (row.value, 0)

-- a key that no row has
not_found : (key : QKey) (rows : List DumpRow) → All (λ before. before.key ≢ key) rows → find (λ row. same_key key row.key) rows ≡ None
not_found key [] h = refl
not_found key (row ∷ rows) h =
    by (same_key key row.key) refl (not_found key rows (All-tail (λ (r : DumpRow). r.key ≢ key) row rows h))
  where
    by : (b : Bool) → same_key key row.key ≡ b → find (λ (r : DumpRow). same_key key r.key) rows ≡ None
        → cond b (Some row) (find (λ (r : DumpRow). same_key key r.key) rows) ≡ None
    by true e rest = absurd (All-head (λ (r : DumpRow). r.key ≢ key) row rows h (sym (same_key-true key row.key e)))
    by false e rest = rest

-- and one more
found_more : (key : QKey) (rows : List DumpRow) (row : DumpRow) → All (λ before. before.key ≢ row.key) rows
    → loaded_entry key (rows ++ row ∷ []) ≡ cond (same_key key row.key) (Some (row.value, 0)) (loaded_entry key rows)
found_more key rows row apart =
    ap (option_map pair_of) (find-append (λ (r : DumpRow). same_key key r.key) rows (row ∷ [])) ∙ by (same_key key row.key) refl
  where
    found : Option DumpRow
    found = find (λ (r : DumpRow). same_key key r.key) rows

    or_none : (o : Option DumpRow) → option_map pair_of (option_or o None) ≡ option_map pair_of o
    or_none None = refl
    or_none (Some r) = refl

    by : (b : Bool) → same_key key row.key ≡ b
        → option_map pair_of (option_or found (cond b (Some row) None)) ≡ cond b (Some (row.value, 0)) (loaded_entry key rows)
    by true e =
        let none : found ≡ None =
        ap (λ (k : QKey). find (λ (r : DumpRow). same_key k r.key) rows) (same_key-true key row.key e) ∙ not_found row.key rows apart in
        ap (λ (o : Option DumpRow). option_map pair_of (option_or o (Some row))) none
    by false e = or_none found

-- what a past shows behind rows that were loaded
pub record IsLoaded (past : List Step) (rows : List DumpRow) : Type 0 where
  pub has : HasRows past rows
  pub no_leases : (key : QKey) → recorded key past ≡ None
  pub no_quars : (key : QKey) → standing key past ≡ []

pub loaded_blank : (past : List Step) (rows : List DumpRow) (key : QKey) → IsLoaded past rows → All (λ before. before.key ≢ key) rows → IsBlank past key
loaded_blank past rows key h apart = record {
  no_quars = h.no_quars key;
  no_lease = h.no_leases key;
  no_entry = h.has.entries key ∙ ap (option_map pair_of) (not_found key rows apart);
}

-- behind the lease of one more key the entries are as before
pub leased_rows : (terms : Terms) (past : List Step) (rows : List DumpRow) (who : Sid) (now token : ℕ) (key : QKey) → HasRows past rows → entry key past ≡ None
    → HasRows (lease_of terms who now token key ∷ past) rows
leased_rows terms past rows who now token key h none = record {
  entries = λ other. leased_entry terms past who now token key other none ∙ h.entries other;
  in_order = leased_order terms past who now token key none ∙ h.in_order;
}

-- and behind its value they are one more
pub loaded_row : (terms : Terms) (past : List Step) (rows : List DumpRow) (who : Sid) (now token : ℕ) (row : DumpRow) → IsLoaded past rows
    → All (λ before. before.key ≢ row.key) rows → IsLoaded (store_of now token row ∷ lease_of terms who now token row.key ∷ past) (rows ++ row ∷ [])
loaded_row terms past rows who now token row h apart = record {
  has = record {
    entries = λ key. entry_is key (same_key key row.key) refl ∙ sym (found_more key rows row apart);
    in_order = order_is ∙ ap (λ (rs : List DumpRow). map (λ (r : DumpRow). r.key) rs) (sym (reverse-append rows (row ∷ [])));
  };
  no_leases = λ key. lease_is key (same_key key row.key);
  no_quars = h.no_quars;
}
  where
    leased : List Step
    leased = lease_of terms who now token row.key ∷ past

    none : entry row.key past ≡ None
    none = (loaded_blank past rows row.key h apart).no_entry

    entry_is : (key : QKey) (b : Bool) → same_key key row.key ≡ b
        → cond b (Some (row.value, 0)) (entry key (lease_of terms who now token row.key ∷ past)) ≡ cond b (Some (row.value, 0)) (loaded_entry key rows)
    entry_is key true e = refl
    entry_is key false e = leased_entry terms past who now token row.key key none ∙ h.has.entries key

    lease_is : (key : QKey) (b : Bool)
        → cond b None (cond b (Some (record { sid = who; token = token; deadline = deadline_at terms now })) (recorded key past)) ≡ None
    lease_is key true = refl
    lease_is key false = h.no_leases key

    order_is : order (store_of now token row ∷ lease_of terms who now token row.key ∷ past) ≡ row.key ∷ map (λ (r : DumpRow). r.key) (reverse rows)
    order_is =
        order_by (store_of now token row) (lease_of terms who now token row.key ∷ past)
        ∙ ap (λ (keys : List QKey). row.key ∷ keys) (filter-all (other_keys row.key (order (lease_of terms who now token row.key ∷ past)))
        ∙ ap (other_keys row.key) (leased_order terms past who now token row.key none)
        ∙ order-without past row.key (ap is_some none) ∙ h.has.in_order)

-- ---- where loading is, and how it goes on

-- these rows are loaded but for the last ones
pub record IsLoading (who : Sid) (now : ℕ) (rows rest : List DumpRow) (old shard : ShardView) : Type 0 where
  pub front : List DumpRow
  pub parts : rows ≡ front ++ rest
  pub gained : HasGained (steps_for who now old front) old shard
  pub loaded : IsLoaded (past_of shard) front
  pub drawn : next_token shard.terms (past_of shard) ≡ next_token old.terms (past_of old) + length front
  pub tokens : HasTokens old front

-- where there is no entry the order is empty
none_used : (past : List Step) → ((key : QKey) → entry key past ≡ None) → (keys : List QKey) → filter (λ key. is_some (entry key past)) keys ≡ []
none_used past none [] = refl
none_used past none (key ∷ keys) =
    cond-false (is_some (entry key past)) (key ∷ filter (λ k. is_some (entry k past)) keys) (filter (λ k. is_some (entry k past)) keys) (ap is_some (none key))
    ∙ none_used past none keys

pub loading_starts : (who : Sid) (now : ℕ) (rows : List DumpRow) (shard : ShardView) → IsEmpty shard → IsLoading who now rows rows shard shard
loading_starts who now rows shard empty = record {
  front = [];
  parts = refl;
  gained = record { terms = refl; out = refl; history = sym (append-nil shard.history) };
  loaded = record {
    has = record {
      entries = λ key. (empty key).no_entry;
      in_order = none_used (past_of shard) (λ key. (empty key).no_entry) (each_once (used (past_of shard)));
    };
    no_leases = λ key. (empty key).no_lease;
    no_quars = λ key. (empty key).no_quars;
  };
  drawn = omega arith;
  tokens = λ place low. absurd (omega arith);
}

-- no row in front of one has its key
apart : (front : List DumpRow) (row : DumpRow) (rest : List DumpRow) → AllPairs (λ row later. row.key ≢ later.key) (front ++ row ∷ rest)
    → All (λ before. before.key ≢ row.key) front
apart front row rest differ = λ k d low.
    let inside : length front < length (front ++ row ∷ rest) = let e = length-append front (row ∷ rest) in omega (arith, e) in
    let one = differ k (length front) d low inside in
    let other : (get_or front k d).key ≢ (get_or (front ++ row ∷ rest) (length front) d).key =
    subst (λ (b : DumpRow). b.key ≢ (get_or (front ++ row ∷ rest) (length front) d).key) (get_or_append_left front (row ∷ rest) d k low) one in
    subst (λ (b : DumpRow). (get_or front k d).key ≢ b.key) (get_or-append_seam front row rest d) other

-- what holds of all holds of that one
at_seam : (P : DumpRow → Type 0) (front : List DumpRow) (row : DumpRow) (rest : List DumpRow) → All P (front ++ row ∷ rest) → P row
at_seam P front row rest h =
    let inside : length front < length (front ++ row ∷ rest) = let e = length-append front (row ∷ rest) in omega (arith, e) in
    subst P (get_or-append_seam front row rest row) (h (length front) row inside)

-- the next row may be loaded
pub record MayLoad (shard : ShardView) (row : DumpRow) : Type 0 where
  pub home : IsAtHome shard.terms row.key
  pub blank : IsBlank (past_of shard) row.key
  pub roomy : length (order (past_of shard)) < shard.terms.room

pub may_load : (who : Sid) (now : ℕ) (rows : List DumpRow) (row : DumpRow) (rest : List DumpRow) (old shard : ShardView)
    → IsLoading who now rows (row ∷ rest) old shard → AllPairs (λ row later. row.key ≢ later.key) rows → AreAtHome old rows → length rows ≤ old.terms.room
    → MayLoad shard row
may_load who now rows row rest old shard h differ home few =
    let others = apart h.front row rest (subst (AllPairs (λ (r later : DumpRow). r.key ≢ later.key)) h.parts differ) in
    let here : IsAtHome old.terms row.key = at_seam (λ (r : DumpRow). IsAtHome old.terms r.key) h.front row rest (subst (AreAtHome old) h.parts home) in
    let count : length (order (past_of shard)) ≡ length h.front =
    ap (λ (keys : List QKey). length keys) h.loaded.has.in_order ∙ length-map (reverse h.front) (λ (r : DumpRow). r.key) ∙ length-reverse h.front in
    let all : length rows ≡ length (h.front ++ row ∷ rest) = ap (λ (rs : List DumpRow). length rs) h.parts in
    let sum = length-append h.front (row ∷ rest) in
    let below : length (order (past_of shard)) < old.terms.room = omega (arith, count, all, sum, few) in
    record {
      home = subst (λ (t : Terms). IsAtHome t row.key) (sym h.gained.terms) here;
      blank = loaded_blank (past_of shard) h.front row.key h.loaded others;
      roomy = subst (λ (t : Terms). length (order (past_of shard)) < t.room) (sym h.gained.terms) below;
    }

-- the steps of a row behind those of others
steps_behind : (who : Sid) (now : ℕ) (rows rest : List DumpRow) (old shard : ShardView) (h : IsLoading who now rows rest old shard) (row : DumpRow)
    → steps_for who now old (h.front ++ row ∷ []) ≡ steps_for who now old h.front ++ steps_for who now shard (row ∷ [])
steps_behind who now rows rest old shard h row =
    steps_more old.terms who now (next_token old.terms (past_of old)) h.front row
    ∙ ap (λ (n : ℕ). steps_for who now old h.front ++ loaded_steps old.terms who now n (row ∷ [])) (sym h.drawn)
    ∙ ap (λ (t : Terms). steps_for who now old h.front ++ loaded_steps t who now (next_token shard.terms (past_of shard)) (row ∷ [])) (sym h.gained.terms)

pub loading_more : (who : Sid) (now : ℕ) (rows : List DumpRow) (row : DumpRow) (rest : List DumpRow) (old shard new : ShardView)
    → IsLoading who now rows (row ∷ rest) old shard → AllPairs (λ row later. row.key ≢ later.key) rows → HasGained (steps_for who now shard (row ∷ [])) shard new
    → next_token shard.terms (past_of shard) < 2 ^ 64 - 1 → IsLoading who now rows rest old new
loading_more who now rows row rest old shard new h differ more low =
    let others = apart h.front row rest (subst (AllPairs (λ (r later : DumpRow). r.key ≢ later.key)) h.parts differ) in
    let token = next_token shard.terms (past_of shard) in
    let past : past_of new ≡ store_of now token row ∷ lease_of shard.terms who now token row.key ∷ past_of shard = past_gained (steps_for who now shard (row ∷ [])) shard new more in
    let count : length (h.front ++ row ∷ []) ≡ length h.front + 1 = length-append h.front (row ∷ []) in
    record {
      front = h.front ++ row ∷ [];
      parts = h.parts ∙ sym (append_assoc h.front (row ∷ []) rest);
      gained = subst (λ (steps : List Step). HasGained steps old new) (sym (steps_behind who now rows (row ∷ rest) old shard h row))
          (gained_both (steps_for who now old h.front) (steps_for who now shard (row ∷ [])) old shard new h.gained more);
      loaded = subst (λ (p : List Step). IsLoaded p (h.front ++ row ∷ [])) (sym past) (loaded_row shard.terms (past_of shard) h.front who now token row h.loaded others);
      drawn = ap (λ (t : Terms). next_token t (past_of new)) more.terms ∙ ap (next_token shard.terms) past
          ∙ next_by shard.terms (store_of now token row) (lease_of shard.terms who now token row.key ∷ past_of shard)
          ∙ next_by shard.terms (lease_of shard.terms who now token row.key) (past_of shard)
          ∙ ap (λ (n : ℕ). n + 1) h.drawn ∙ omega (arith, count);
      tokens = λ place inside. below place inside count;
    }
  where
    below : (place : ℕ) → place < length (h.front ++ row ∷ []) → length (h.front ++ row ∷ []) ≡ length h.front + 1
        → next_token old.terms (past_of old) + place < 2 ^ 64 - 1
    below place inside count =
        by (nat_lt place (length h.front)) refl
      where
        by : (b : Bool) → nat_lt place (length h.front) ≡ b → next_token old.terms (past_of old) + place < 2 ^ 64 - 1
        by true e = h.tokens place (ltb-true place (length h.front) e)
        by false e =
            let last : length h.front ≤ place = ltb-false place (length h.front) e in
            let at : next_token shard.terms (past_of shard) ≡ next_token old.terms (past_of old) + length h.front = h.drawn in
            omega (arith, at, low, last, count, inside)

-- what is so of the shard where all are loaded
pub loading_ends : (who : Sid) (now : ℕ) (rows : List DumpRow) (old new : ShardView) → IsLoading who now rows [] old new
    → HasLoaded who now rows old new × HasTokens old rows
loading_ends who now rows old new h =
    let all : h.front ≡ rows = sym (h.parts ∙ append-nil h.front) in (
      subst (λ (rs : List DumpRow). HasLoaded who now rs old new) all
          (record { gained = h.gained; has = h.loaded.has; no_leases = h.loaded.no_leases; no_quars = h.loaded.no_quars }),
      subst (HasTokens old) all h.tokens,
    )

-- the rows in front are loaded where nothing has changed since
so_far : (who : Sid) (now : ℕ) (rows rest : List DumpRow) (old shard new : ShardView) (h : IsLoading who now rows rest old shard) → new ≡ shard
    → HasLoaded who now h.front old new
so_far who now rows rest old shard new h same =
    subst (HasLoaded who now h.front old) (sym same)
    (record { gained = h.gained; has = h.loaded.has; no_leases = h.loaded.no_leases; no_quars = h.loaded.no_quars })

-- before the first row none is loaded
pub none_loaded : (who : Sid) (now : ℕ) (rows : List DumpRow) (shard : ShardView) → IsEmpty shard → AreAtHome shard rows
    → StopsShard who now rows shard shard faults.Memory
unfolding loading_starts
none_loaded who now rows shard empty home = (
  home,
  record {
    front = [];
    rest = rows;
    parts = refl;
    loaded = inl (so_far who now rows rows shard shard shard (loading_starts who now rows shard empty) refl);
  },
)

-- where all keys are the shard's none is a stranger, and the session has begun
pub stops_store : (who : Sid) (now : ℕ) (rows : List DumpRow) (old new : ShardView) (before after : StoreView) (fault : LoadFault) → AreAtHome old rows
    → StopsShard who now rows old new fault → after.ledger ≡ with_session false before.ledger → StopsStore before after fault
stops_store who now rows old new before after (faults.Stranger number) home h begun =
    let first = h.0 in
    let inside : number < length rows = slice_get_within rows number first.row first.there in
    let at : get_or rows number first.row ≡ first.row = get_or_from_slice_get rows number first.row first.row first.there in
    absurd (first.away (subst (λ (r : DumpRow). IsAtHome old.terms r.key) at (home number first.row inside)))
stops_store who now rows old new before after (faults.Spent next) home h begun = begun
stops_store who now rows old new before after faults.Memory home h begun = inl begun

-- and where a row wasn't loaded
pub loading_stops : (who : Sid) (now : ℕ) (rows : List DumpRow) (row : DumpRow) (rest : List DumpRow) (old shard new : ShardView) (fault : LoadFault)
    → IsLoading who now rows (row ∷ rest) old shard → AllPairs (λ row later. row.key ≢ later.key) rows → AreAtHome old rows → length rows ≤ old.terms.room
    → StopsRow who now row.key shard new fault → StopsShard who now rows old new fault
loading_stops who now rows row rest old shard new (faults.Stranger number) h differ home few (inl stops) = absurd stops
loading_stops who now rows row rest old shard new (faults.Stranger number) h differ home few (inr stops) = let e = stops.0 in cc
loading_stops who now rows row rest old shard new (faults.Spent next) h differ home few (inl stops) = (
  home,
  record {
    front = h.front;
    row = row;
    more = rest;
    parts = h.parts;
    loaded = so_far who now rows (row ∷ rest) old shard new h stops.0;
    drawn = stops.1 ∙ h.drawn;
    last = stops.2;
  },
)
loading_stops who now rows row rest old shard new (faults.Spent next) h differ home few (inr stops) = let e = stops.0 in cc
loading_stops who now rows row rest old shard new faults.Memory h differ home few (inl stops) = (
  home,
  record {
    front = h.front;
    rest = row ∷ rest;
    parts = h.parts;
    loaded = inl (so_far who now rows (row ∷ rest) old shard new h stops);
  },
)
loading_stops who now rows row rest old shard new faults.Memory h differ home few (inr stops) =
    let may = may_load who now rows row rest old shard h differ home few in
    let lease = first_lease who now shard row.key in
    let same : lease ≡ next_lease who now old h.front row.key =
    ap (λ (n : ℕ). lease_of shard.terms who now n row.key) h.drawn
    ∙ ap (λ (t : Terms). lease_of t who now (next_token old.terms (past_of old) + length h.front) row.key) h.gained.terms in
    let past : past_of new ≡ lease ∷ past_of shard = past_gained (lease ∷ []) shard new stops.1 in (
      home,
      record {
        front = h.front;
        rest = row ∷ rest;
        parts = h.parts;
        loaded = inr (
          row,
          rest,
          refl,
          record {
            gained = subst (λ (s : Step). HasGained (steps_for who now old h.front ++ s ∷ []) old new) same
                (gained_both (steps_for who now old h.front) (lease ∷ []) old shard new h.gained stops.1);
            has = subst (λ (p : List Step). HasRows p h.front) (sym past)
                (leased_rows shard.terms (past_of shard) h.front who now (next_token shard.terms (past_of shard)) row.key h.loaded.has may.blank.no_entry);
          },
        );
      },
    )

-- ---- rows that are answers are right

found_right : (opening : Tables) (key : QKey) (rows : List DumpRow) → All (λ row. row.value ≡ answer row.key opening) rows
    → (value : List ℕ) (stamp : ℕ) → loaded_entry key rows ≡ Some (value, stamp) → (stamp ≡ 0) × (value ≡ answer key opening)
found_right opening key [] h = λ value stamp e. cc
found_right opening key (row ∷ rows) h =
    by (same_key key row.key) refl (found_right opening key rows (All-tail (λ (r : DumpRow). r.value ≡ answer r.key opening) row rows h))
  where
    by : (b : Bool) → same_key key row.key ≡ b
        → ((value : List ℕ) (stamp : ℕ) → loaded_entry key rows ≡ Some (value, stamp) → (stamp ≡ 0) × (value ≡ answer key opening))
        → (value : List ℕ) (stamp : ℕ) → option_map pair_of (cond b (Some row) (find (λ (r : DumpRow). same_key key r.key) rows)) ≡ Some (value, stamp)
        → (stamp ≡ 0) × (value ≡ answer key opening)
    by true same rest value stamp found =
        let here : row.value ≡ answer row.key opening = All-head (λ (r : DumpRow). r.value ≡ answer r.key opening) row rows h in
        let one : key ≡ row.key = same_key-true key row.key same in
        let pair : (value, stamp) ≡ pair_of row = cc in (
          ap (λ (p : List ℕ × ℕ). p.1) pair,
          ap (λ (p : List ℕ × ℕ). p.0) pair ∙ here ∙ ap (λ (k : QKey). answer k opening) (sym one),
        )
    by false other rest value stamp found = rest value stamp found

pub rows_right : (known_rows now : Option Tables) (before opening : Tables) (past : List Step) (rows : List DumpRow) → AreAnswers known_rows before rows → now ≡ known_rows
    → opening ≡ before → HasRows past rows → IsSome now → AreRight opening past
rows_right known_rows now before opening past rows h same one has some =
    let all : All (λ row. row.value ≡ answer row.key before) rows = h (subst IsSome same some) in λ key value stamp found.
    found_right opening key rows (subst (λ (t : Tables). All (λ (r : DumpRow). r.value ≡ answer r.key t) rows) (sym one) all) value stamp
    (sym (has.entries key) ∙ found)

-- ---- rows that the store was asked for

pub asked_more : (key : QKey) (value given : List ℕ) (old mid new : StoreView) (rows : List DumpRow) (i : ℕ) (d : DumpRow) → old.ledger.log ≡ [] → HasAsked old mid
    → AreAnswers mid.known_rows old.ledger.opening (take i rows) → i < length rows → get_or rows i d ≡ record { key = key; value = value } → value ≡ given
    → (IsSome new.known_rows → IsSome mid.known_rows × (given ≡ answer key (rows_of mid.ledger)))
    → AreAnswers new.known_rows old.ledger.opening (take (i + 1) rows)
asked_more key value given old mid new rows i d none asked before inside row same tells = λ some.
    let known = tells some in
    let opening : rows_of mid.ledger ≡ old.ledger.opening = ap (rows_after mid.ledger.opening) (asked.log ∙ none) ∙ asked.opening in
    let right : value ≡ answer key old.ledger.opening = same ∙ known.1 ∙ ap (answer key) opening in
    All-more (λ (r : DumpRow). r.value ≡ answer r.key old.ledger.opening) rows i d inside (before known.0)
    (subst (λ (r : DumpRow). r.value ≡ answer r.key old.ledger.opening) (sym row) right)
