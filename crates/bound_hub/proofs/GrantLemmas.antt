-- Where no key of a transaction lacks a grant, and the steps of the grants are seen, the Commit may be seen.
use Rattle.std.proofs.Common.{ℕ, ◌≡◌, ◌==◌, ◌||◌, Bool, true, false, cond, not, find, List, [], ◌∷◌, All, Option, None, Some, refl, sym, subst, ◌∙◌, ⊎_elim}
use Rattle.std.specs.List.{list_any}
use Rattle.std.proofs.lemmas.Bool.{false≢true, eqb-true, eq-eqb, or_cases, and_parts, and_from}
use Rattle.std.proofs.lemmas.List.Elements.{All-head, All-tail, All-weaker}
use Rattle.rows_model.specs.declared.keys.QKey.{QKey}
use Rattle.rows_model.specs.declared.keys.Sid.{Sid}
use Rattle.rows_model.specs.declared.changes.Change.{Change}
use Rattle.rows_model.specs.Key.{same_key}
use Rattle.rows_model.specs.Changes.{footprint, has_key}
use Rattle.rows_model.specs.Placement.{shard_of}
use Rattle.rows_model.proofs.SameKey.{same_key-true, same_key-refl}
use Rattle.rows_model.proofs.FootprintLemmas.{footprints_are_exact_is}
use Rattle.key_shard.specs.Permit.{Permit}
use Rattle.sql_keeper.specs.Commits.{covers, is_covered, uncovered, covered_fault, commit_fault}
use Rattle.log_word.specs.declared.events.StoreEvent.TheVariants.{Commit}
use Rattle.log_word.specs.declared.events.ShortKind.TheVariants as kinds
use Rattle.log_word.specs.declared.seen.Seen.{Seen}
use Rattle.log_word.specs.Lists.{steps_of}
use Rattle.log_word.specs.Steps.{grants, IsGranted, IsBeginning}
use Rattle.log_word.proofs.StartLemmas.{any_goes_on}
use Rattle.key_freshness.proofs.MarkLemmas.{by_test}
use Rattle.bound_hub.specs.Shorts.{short}
use Rattle.bound_hub.specs.Stores.{IsGrantSeen}
use Rattle.bound_hub.specs.Laws.{ClosedAreOver, GrantsAreSeen}
use Rattle.bound_hub.proofs.EventLemmas.{over_is_known}
use Rattle.bound_hub.proofs.SessionLemmas.{closed_is_over}

not_true : (b : Bool) → not b ≡ false → b ≡ true
not_true true e = refl
not_true false e = absurd (false≢true (sym e))

-- of keys among which none lacks a grant, each has one
each_covered : (who : Sid) (permits : List Permit) (keys : List QKey) (key : QKey) → find (λ k. not (is_covered who permits k)) keys ≡ None
    → has_key key keys ≡ true → is_covered who permits key ≡ true
each_covered who permits [] key h e = absurd (false≢true e)
each_covered who permits (first ∷ keys) key h e =
    by_test (λ b. cond b (Some first) (find (λ k. not (is_covered who permits k)) keys) ≡ None → is_covered who permits key ≡ true)
    (not (is_covered who permits first))
    (λ lacks found. absurd cc)
    (λ has rest.
    ⊎_elim
    (λ same. subst (λ k. is_covered who permits k ≡ true) (sym (same_key-true key first same)) (not_true (is_covered who permits first) has))
    (λ other. each_covered who permits keys key rest other)
    (or_cases (same_key key first) (has_key key keys) e))
    h

-- whose grant it is that covers a key, that session's Granted is seen
grant_of : (shards : ℕ) (seen : Seen) (who : Sid) (permits : List Permit) (key : QKey) → All (IsGrantSeen shards seen) permits → is_covered who permits key ≡ true
    → list_any (grants key who.number) (steps_of (shard_of key shards) seen.steps) ≡ true
grant_of shards seen who [] key all e = absurd (false≢true e)
grant_of shards seen who (first ∷ permits) key all e =
    ⊎_elim
    (λ its.
    let both = and_parts (same_key key first.key) (first.sid.number == who.number) its in
    subst (λ k. list_any (grants k who.number) (steps_of (shard_of k shards) seen.steps) ≡ true) (sym (same_key-true key first.key both.0))
    (subst (λ n. list_any (grants first.key n) (steps_of (shard_of first.key shards) seen.steps) ≡ true) (eqb-true first.sid.number who.number both.1)
    (All-head (IsGrantSeen shards seen) first permits all)))
    (λ others. grant_of shards seen who permits key (All-tail (IsGrantSeen shards seen) first permits all) others)
    (or_cases (covers who key first) (is_covered who permits key) e)

-- a commit that no fault refuses is covered
covered_is : (may : Bool) (who : Sid) (permits : List Permit) (txn : List Change) (count cap : ℕ) → commit_fault may who permits txn count cap ≡ None → uncovered who permits txn ≡ None
covered_is false who permits txn count cap h = absurd cc
covered_is true who permits txn count cap h = by (uncovered who permits txn) h
  where
    by : (key : Option QKey) → covered_fault key count cap ≡ None → key ≡ None
    by (Some key) e = absurd cc
    by None e = refl

-- and is that of an open session
pub admitted_is_open : (may : Bool) (who : Sid) (permits : List Permit) (txn : List Change) (count cap : ℕ) → commit_fault may who permits txn count cap ≡ None → may ≡ true
admitted_is_open false who permits txn count cap h = absurd cc
admitted_is_open true who permits txn count cap h = refl

pub admitted_is_granted : (shards : ℕ) (seen : Seen) (may : Bool) (who : Sid) (permits : List Permit) (txn : List Change) (count cap : ℕ)
    → commit_fault may who permits txn count cap ≡ None → All (IsGrantSeen shards seen) permits → IsGranted shards seen.steps (Commit who txn)
admitted_is_granted shards seen may who permits txn count cap h all = λ key touched.
    grant_of shards seen who permits key all
    (each_covered who permits (footprint txn) key (covered_is may who permits txn count cap h) ((footprints_are_exact_is txn).exact key ∙ touched))

-- a grant whose step was seen is seen with more
pub grant_goes_on : (shards : ℕ) (old new : Seen) → IsBeginning old new → (permit : Permit) → IsGrantSeen shards old permit → IsGrantSeen shards new permit
grant_goes_on shards old new begins permit h =
    let shard = shard_of permit.key shards in
    any_goes_on (grants permit.key permit.sid.number) (steps_of shard old.steps) (steps_of shard new.steps) (begins.steps shard) h

step_is_grant : (permit : Permit) (token : ℕ) (has : Bool) → grants permit.key permit.sid.number (short kinds.Granted permit.key permit.sid token 0 has) ≡ true
step_is_grant permit token has = and_from (same_key permit.key permit.key) (permit.sid.number == permit.sid.number) (same_key-refl permit.key) (eq-eqb permit.sid.number permit.sid.number refl)

first_passes : (a b : Bool) → a ≡ true → (a || b) ≡ true
first_passes true b e = refl
first_passes false b e = absurd (false≢true e)

pub grants_are_seen : GrantsAreSeen
grants_are_seen shards token has old new grant last begins =
    let step = short kinds.Granted grant.key grant.sid token 0 has in
    let passes = grants grant.key grant.sid.number in
    grant_goes_on shards old new begins grant
    (subst (λ l. list_any passes l ≡ true) (sym last.1) (first_passes (passes step) (list_any passes last.0) (step_is_grant grant token has)))

pub closed_are_over : ClosedAreOver
closed_are_over shards seen who sound may closed = over_is_known seen.events who (closed_is_over who seen.events sound.in_order may closed)

-- so are they all
pub all_go_on : (shards : ℕ) (old new : Seen) (permits : List Permit) → IsBeginning old new → All (IsGrantSeen shards old) permits → All (IsGrantSeen shards new) permits
all_go_on shards old new permits begins all = All-weaker (IsGrantSeen shards old) (IsGrantSeen shards new) (grant_goes_on shards old new begins) permits all
