-- What the entries of a shard with a legal history are: of its own keys, each once, and no more than it has room for.
use Rattle.std.proofs.Common.{ℕ, ◌≡◌, ◌<◌, ◌≤◌, ◌+◌, ◌||◌, Bool, true, false, cond, not, List, [], ◌∷◌, length, filter, Option, Some, None, is_some, ◌⊎◌}
use Rattle.std.proofs.Common.{arith, refl, sym, ap, subst, ◌∙◌, nat_lt}
use Rattle.std.specs.Prelude.{ℤ}
use Rattle.std.specs.List.{list_any, AllByRecursion}
use Rattle.std.proofs.lemmas.Bool.{or_left, or_right, or_parts, or_from}
use Rattle.std.proofs.lemmas.Bool.Decides.{nat_tests}
use Rattle.rows_model.specs.declared.keys.QKey.{QKey}
use Rattle.rows_model.specs.Key.{same_key}
use Rattle.rows_model.proofs.SameKey.{same_key-true, same_key-refl, same_key-swap}
use Rattle.key_shard.specs.declared.replies.How.{How}
use Rattle.key_shard.specs.declared.replies.How.TheVariants as hows
use Rattle.key_shard.specs.declared.steps.Ended.TheVariants.{Keep, Drop, Put, Shift}
use Rattle.key_shard.specs.declared.steps.Step.{Step}
use Rattle.key_shard.specs.declared.steps.Step.TheVariants.{Hit, Lease, Again, Own, Stored, Void, Granted, Held, Refused, Released, Gone, Raised, Shared, Renewed}
use Rattle.key_shard.specs.Past.{Terms, entry, order, used, each_once, is_evicted, entry_shifted, last_key, evicts}
use Rattle.key_shard.specs.Answers.{Request, Get, Set, Quarantine, Release, Replace, Raise, Renew, key_of, step_of, IsAtHome, Answers, IsLegalPast, ended_as}
use Rattle.key_shard.specs.OneStep.{step_key, other_keys, put_first, order_after}
use Rattle.key_shard.proofs.LegalLemmas.{every-filter}
use Rattle.key_shard.proofs.OneStepLemmas.{order_by, order-without}
use Rattle.key_shard.specs.Permit.{Permit}
use Rattle.lease_table.specs.declared.records.Quar.{Quar}
use Rattle.key_shard.proofs.CaseLemmas.{got_cases, set_cases, quarantine_cases, release_cases, replace_cases, raise_cases, renew_cases}

-- whether a key is among these
abbrev pub has : QKey → List QKey → Bool
has key keys = list_any (same_key key) keys

-- ---- a key that has an entry is in the order

some_of : (b : Bool) (o : Option (List ℕ × ℕ)) → is_some (cond b None o) ≡ true → is_some o ≡ true
some_of true o h = cc
some_of false o h = h

either_of : (b : Bool) (o : Option (List ℕ × ℕ)) → is_some (cond b o o) ≡ true → is_some o ≡ true
either_of true o h = h
either_of false o h = h

shifted_of : (by : ℤ) (stamp : ℕ) (o : Option (List ℕ × ℕ)) → is_some (entry_shifted by stamp o) ≡ true → is_some o ≡ true
shifted_of by stamp None h = h
shifted_of by stamp (Some found) h = refl

-- of a key whose value is stored or put, and of another
put_used : (past : List Step) (on key : QKey) (value : List ℕ) (stamp : ℕ) (evicted : Option QKey) (b : Bool) → same_key key on ≡ b
    → is_some (cond b (Some (value, stamp)) (cond (is_evicted key evicted) None (entry key past))) ≡ true
    → (is_some (entry key past) ≡ true → has key (used past) ≡ true) → has key (on ∷ used past) ≡ true
put_used past on key value stamp evicted true same h rest = or_left (same_key key on) (has key (used past)) same
put_used past on key value stamp evicted false same h rest =
    or_right (same_key key on) (has key (used past)) (rest (some_of (is_evicted key evicted) (entry key past) h))

-- and of one whose number is moved
shift_used : (past : List Step) (key : QKey) (by : ℤ) (stamp : ℕ) (b : Bool)
    → is_some (cond b (entry_shifted by stamp (entry key past)) (entry key past)) ≡ true → is_some (entry key past) ≡ true
shift_used past key by stamp true h = shifted_of by stamp (entry key past) h
shift_used past key by stamp false h = h

used_has : (past : List Step) (key : QKey) → is_some (entry key past) ≡ true → has key (used past) ≡ true
used_has [] key h = cc
used_has (Hit on sid floor value stamp ∷ past) key h = or_right (same_key key on) (has key (used past)) (used_has past key h)
used_has (Lease on sid floor now token deadline ∷ past) key h = used_has past key (some_of (same_key key on) (entry key past) h)
used_has (Again on sid floor now standing ∷ past) key h = used_has past key (some_of (same_key key on) (entry key past) h)
used_has (Stored on token now value stamp evicted ∷ past) key h = put_used past on key value stamp evicted (same_key key on) refl h (used_has past key)
used_has (Released on sid token Keep ∷ past) key h = used_has past key (either_of (same_key key on) (entry key past) h)
used_has (Released on sid token Drop ∷ past) key h = used_has past key (drop_used (same_key key on) h)
  where
    drop_used : (b : Bool) → is_some (cond b None (entry key past)) ≡ true → is_some (entry key past) ≡ true
    drop_used b h = some_of b (entry key past) h
used_has (Released on sid token (Put value stamp evicted) ∷ past) key h = put_used past on key value stamp evicted (same_key key on) refl h (used_has past key)
used_has (Released on sid token (Shift by stamp) ∷ past) key h = used_has past key (shift_used past key by stamp (same_key key on) h)
used_has (Own on sid ∷ past) key h = used_has past key h
used_has (Void on token now ∷ past) key h = used_has past key h
used_has (Granted on sid mode shift now token deadline ∷ past) key h = used_has past key h
used_has (Held on sid mode ∷ past) key h = used_has past key h
used_has (Refused on sid mode holder held ∷ past) key h = used_has past key h
used_has (Gone on sid token ∷ past) key h = used_has past key h
used_has (Raised on sid token ∷ past) key h = used_has past key h
used_has (Shared on sid token holder ∷ past) key h = used_has past key h
used_has (Renewed on sid token now deadline ∷ past) key h = used_has past key h

-- a filter that passes a key keeps it
filter_has : (q : QKey → Bool) (key : QKey) (keys : List QKey) → q key ≡ true → has key keys ≡ true → has key (filter q keys) ≡ true
filter_has q key [] pass h = h
filter_has q key (k ∷ keys) pass h = by (q k) refl (same_key key k) refl (filter_has q key keys pass)
  where
    by : (b : Bool) → q k ≡ b → (c : Bool) → same_key key k ≡ c → (has key keys ≡ true → has key (filter q keys) ≡ true)
        → has key (cond b (k ∷ filter q keys) (filter q keys)) ≡ true
    by true e true f rest = or_left (same_key key k) (has key (filter q keys)) f
    by true e false f rest = or_right (same_key key k) (has key (filter q keys)) (rest (rw f at h))
    by false e true f rest = let one : key ≡ k = same_key-true key k f in let clash : false ≡ true = sym e ∙ (ap q (sym one) ∙ pass) in cc
    by false e false f rest = rest (rw f at h)

once_has : (keys : List QKey) (key : QKey) → has key keys ≡ true → has key (each_once keys) ≡ true
once_has [] key h = h
once_has (k ∷ keys) key h = by (same_key key k) refl (once_has keys key)
  where
    by : (b : Bool) → same_key key k ≡ b → (has key keys ≡ true → has key (each_once keys) ≡ true)
        → (same_key key k || has key (filter (λ other. not (same_key k other)) (each_once keys))) ≡ true
    by true e rest = or_left (same_key key k) (has key (filter (λ other. not (same_key k other)) (each_once keys))) e
    by false e rest =
        let apart : not (same_key k key) ≡ true = ap not (same_key-swap k key ∙ e) in
        or_right (same_key key k) (has key (filter (λ other. not (same_key k other)) (each_once keys)))
        (filter_has (λ other. not (same_key k other)) key (each_once keys) apart (rest (rw e at h)))

pub order_has : (past : List Step) (key : QKey) → is_some (entry key past) ≡ true → has key (order past) ≡ true
order_has past key h = filter_has (λ k. is_some (entry k past)) key (each_once (used past)) h (once_has (used past) key (used_has past key h))

-- ---- no key is in the order twice

abbrev pub AreOnce : List QKey → Type 0
AreOnce [] = Unit {0}
AreOnce (key ∷ keys) = (has key keys ≡ false) × AreOnce keys

-- a filter adds no key
filter_none : (q : QKey → Bool) (key : QKey) (keys : List QKey) → has key keys ≡ false → has key (filter q keys) ≡ false
filter_none q key [] h = h
filter_none q key (k ∷ keys) h =
    let parts = or_parts (same_key key k) (has key keys) h in
    by (q k) parts.0 (filter_none q key keys parts.1)
  where
    by : (b : Bool) → same_key key k ≡ false → has key (filter q keys) ≡ false → has key (cond b (k ∷ filter q keys) (filter q keys)) ≡ false
    by true front rest = or_from (same_key key k) (has key (filter q keys)) front rest
    by false front rest = rest

once_filter : (q : QKey → Bool) (keys : List QKey) → AreOnce keys → AreOnce (filter q keys)
once_filter q [] h = tt
once_filter q (k ∷ keys) h = by (q k) (once_filter q keys h.1)
  where
    by : (b : Bool) → AreOnce (filter q keys) → AreOnce (cond b (k ∷ filter q keys) (filter q keys))
    by true rest = (filter_none q k keys h.0, rest)
    by false rest = rest

-- nor does the filter that takes a key out leave it
filtered_out : (key : QKey) (keys : List QKey) → has key (filter (λ other. not (same_key key other)) keys) ≡ false
filtered_out key [] = refl
filtered_out key (k ∷ keys) = by (same_key key k) refl (filtered_out key keys)
  where
    by : (b : Bool) → same_key key k ≡ b → has key (filter (λ other. not (same_key key other)) keys) ≡ false
        → has key (cond (not b) (k ∷ filter (λ other. not (same_key key other)) keys) (filter (λ other. not (same_key key other)) keys)) ≡ false
    by true e rest = rest
    by false e rest = or_from (same_key key k) (has key (filter (λ other. not (same_key key other)) keys)) e rest

each_once_is : (keys : List QKey) → AreOnce (each_once keys)
each_once_is [] = tt
each_once_is (key ∷ keys) = (filtered_out key (each_once keys), once_filter (λ other. not (same_key key other)) (each_once keys) (each_once_is keys))

pub order_once : (past : List Step) → AreOnce (order past)
order_once past = once_filter (λ key. is_some (entry key past)) (each_once (used past)) (each_once_is (used past))

-- ---- what a step of a legal history is: on a key of the shard, and the key that makes room is the one that has to

abbrev MakesRoom : Terms → List Step → Step → Type 0
MakesRoom terms past (Stored on token now value stamp evicted) = evicted ≡ evicts terms on past
MakesRoom terms past (Released on sid token (Put value stamp evicted)) = evicted ≡ evicts terms on past
MakesRoom terms past step = Unit {0}

abbrev IsRight : Terms → List Step → Step → Type 0
IsRight terms past step = MakesRoom terms past step × IsAtHome terms (step_key step)

ended_right : (terms : Terms) (past : List Step) (permit : Permit) (quar : Quar) (how : How) → IsAtHome terms permit.key
    → IsRight terms past (Released permit.key quar.sid permit.token (ended_as quar how))
ended_right terms past permit quar hows.Keep home = (tt, home)
ended_right terms past permit quar hows.Drop home = (tt, home)
ended_right terms past permit quar (hows.Shift stamp) home = (tt, home)

right_by : (terms : Terms) (past : List Step) (request : Request) → IsAtHome terms (key_of request) → IsRight terms past (step_of terms past request)
right_by terms past (Get on sid floor now) home =
    got_cases (IsRight terms past) terms past on sid floor now (λ value stamp _. (tt, home)) (tt, home) (λ stands. (tt, home)) (λ none. (tt, home))
right_by terms past (Set on token value stamp now) home =
    set_cases (IsRight terms past) terms past on token value stamp now (λ _. (refl, home)) (λ _. (tt, home))
right_by terms past (Quarantine on sid mode shift now) home =
    quarantine_cases (IsRight terms past) terms past on sid mode shift now (λ none. (tt, home)) (tt, home) (λ quar _. (tt, home))
right_by terms past (Release permit how) home =
    release_cases (IsRight terms past) past permit how (λ quar _. ended_right terms past permit quar how home) (λ _. (tt, home))
right_by terms past (Replace permit value stamp) home =
    replace_cases (IsRight terms past) terms past permit value stamp (λ quar _. (refl, home)) (λ _. (tt, home))
right_by terms past (Raise permit) home = raise_cases (IsRight terms past) past permit (λ _. (tt, home)) (λ _ _. (tt, home)) (tt, home)
right_by terms past (Renew permit now) home = renew_cases (IsRight terms past) terms past permit now (λ _ _. (tt, home)) (λ _. (tt, home))

answer_right : (terms : Terms) (past : List Step) (step : Step) → Answers terms past step → IsRight terms past step
answer_right terms past step a = subst (IsRight terms past) (sym a.answer) (right_by terms past a.request a.at_home)

-- ---- the keys in the order are the shard's

abbrev pub AreHome : Terms → List QKey → Type 0
AreHome terms keys = AllByRecursion (IsAtHome terms) keys

home_put : (terms : Terms) (on : QKey) (evicted : Option QKey) (keys : List QKey) → IsAtHome terms on → AreHome terms keys → AreHome terms (put_first on evicted keys)
home_put terms on evicted keys home h =
    (home, every-filter (IsAtHome terms) (λ other. not (is_evicted other evicted)) (other_keys on keys) (every-filter (IsAtHome terms) (λ other. not (same_key on other)) keys h))

home_either : (terms : Terms) (on : QKey) (keys : List QKey) (b : Bool) → AreHome terms keys → AreHome terms (cond b keys (other_keys on keys))
home_either terms on keys true h = h
home_either terms on keys false h = every-filter (IsAtHome terms) (λ other. not (same_key on other)) keys h

home_step : (terms : Terms) (step : Step) (found : Option (List ℕ × ℕ)) (keys : List QKey) → IsAtHome terms (step_key step)
    → AreHome terms keys → AreHome terms (order_after step found keys)
home_step terms (Hit on sid floor value stamp) (Some found) keys home h = (home, every-filter (IsAtHome terms) (λ other. not (same_key on other)) keys h)
home_step terms (Hit on sid floor value stamp) None keys home h = h
home_step terms (Lease on sid floor now token deadline) found keys home h = every-filter (IsAtHome terms) (λ other. not (same_key on other)) keys h
home_step terms (Again on sid floor now standing) found keys home h = every-filter (IsAtHome terms) (λ other. not (same_key on other)) keys h
home_step terms (Stored on token now value stamp evicted) found keys home h = home_put terms on evicted keys home h
home_step terms (Released on sid token Keep) found keys home h = h
home_step terms (Released on sid token Drop) found keys home h = every-filter (IsAtHome terms) (λ other. not (same_key on other)) keys h
home_step terms (Released on sid token (Put value stamp evicted)) found keys home h = home_put terms on evicted keys home h
home_step terms (Released on sid token (Shift by stamp)) found keys home h = home_either terms on keys (is_some (entry_shifted by stamp found)) h
home_step terms (Own on sid) found keys home h = h
home_step terms (Void on token now) found keys home h = h
home_step terms (Granted on sid mode shift now token deadline) found keys home h = h
home_step terms (Held on sid mode) found keys home h = h
home_step terms (Refused on sid mode holder held) found keys home h = h
home_step terms (Gone on sid token) found keys home h = h
home_step terms (Raised on sid token) found keys home h = h
home_step terms (Shared on sid token holder) found keys home h = h
home_step terms (Renewed on sid token now deadline) found keys home h = h

pub order_home : (terms : Terms) (past : List Step) → IsLegalPast terms past → AreHome terms (order past)
order_home terms [] legal = tt
order_home terms (step ∷ past) legal =
    let right = answer_right terms past step legal.0 in
    subst (AreHome terms) (sym (order_by step past)) (home_step terms step (entry (step_key step) past) (order past) right.1 (order_home terms past legal.1))

-- ---- there are no more of them than there is room

fewer : (q : QKey → Bool) (keys : List QKey) → length (filter q keys) ≤ length keys
fewer q [] = omega arith
fewer q (k ∷ keys) = by (q k) (fewer q keys)
  where
    by : (b : Bool) → length (filter q keys) ≤ length keys → length (cond b (k ∷ filter q keys) (filter q keys)) ≤ length (k ∷ keys)
    by true rest = omega arith
    by false rest = omega arith

one_fewer : (q : QKey → Bool) (key : QKey) (keys : List QKey) → q key ≡ false → has key keys ≡ true → length (filter q keys) + 1 ≤ length keys
one_fewer q key [] out h = let clash : false ≡ true = h in absurd (cc)
one_fewer q key (k ∷ keys) out h = by (q k) refl (same_key key k) refl (one_fewer q key keys out)
  where
    by : (b : Bool) → q k ≡ b → (c : Bool) → same_key key k ≡ c → (has key keys ≡ true → length (filter q keys) + 1 ≤ length keys)
        → length (cond b (k ∷ filter q keys) (filter q keys)) + 1 ≤ length (k ∷ keys)
    by true e true f rest =
        let one : key ≡ k = same_key-true key k f in let clash : true ≡ false = sym e ∙ (ap q (sym one) ∙ out) in absurd (cc)
    by true e false f rest = let less = rest (rw f at h) in omega (arith, less)
    by false e true f rest = let less = fewer q keys in omega (arith, less)
    by false e false f rest = let less = rest (rw f at h) in omega (arith, less)

has_itself : (key : QKey) → not (same_key key key) ≡ false
has_itself key = ap not (same_key-refl key)

-- the last key is among them
last_in : (keys : List QKey) (last : QKey) → last_key keys ≡ Some last → has last keys ≡ true
last_in [] last e = cc
last_in (key ∷ []) last e =
    let one : last ≡ key = cc in or_left (same_key last key) false (ap (λ (k : QKey). same_key last k) (sym one) ∙ same_key-refl last)
last_in (key ∷ next ∷ keys) last e = or_right (same_key last key) (has last (next ∷ keys)) (last_in (next ∷ keys) last e)

-- where there is none there is no key
none_last : (keys : List QKey) → last_key keys ≡ None → length keys ≡ 0
none_last [] e = refl
none_last (key ∷ []) e = let clash : Some key ≡ None = e in absurd (cc)
none_last (key ∷ next ∷ keys) e =
    let rest = none_last (next ∷ keys) e in absurd (omega (arith, rest))

-- the other keys but the one that makes room
abbrev rest_of : QKey → Option QKey → List QKey → List QKey
rest_of on evicted keys = filter (λ other. not (is_evicted other evicted)) (other_keys on keys)

-- where all room is taken and the key has no entry
few_full : (on : QKey) (keys : List QKey) (bound : ℕ) (o : Option QKey) → last_key keys ≡ o → other_keys on keys ≡ keys → 1 ≤ bound → length keys ≤ bound
    → length (rest_of on o keys) + 1 ≤ bound
few_full on keys bound None e same some few =
    let none = none_last keys e in
    let less = fewer (λ other. not (is_evicted other None)) (other_keys on keys) in
    let lengths : length (other_keys on keys) ≡ length keys = ap length same in
    omega (arith, none, less, lengths, some)
few_full on keys bound (Some last) e same some few =
    let there : has last (other_keys on keys) ≡ true = ap (has last) same ∙ last_in keys last e in
    let less = one_fewer (λ other. not (is_evicted other (Some last))) last (other_keys on keys) (has_itself last) there in
    let lengths : length (other_keys on keys) ≡ length keys = ap length same in
    omega (arith, less, lengths, few)

few_new : (on : QKey) (keys : List QKey) (room bound : ℕ) (b : Bool) → nat_lt (length keys) room ≡ b → other_keys on keys ≡ keys → room ≤ bound → 1 ≤ bound
    → length keys ≤ bound → length (rest_of on (cond b None (last_key keys)) keys) + 1 ≤ bound
few_new on keys room bound true e same roomy some few =
    let low : length keys < room = grind (arith, nat_tests) in
    let less = fewer (λ other. not (is_evicted other None)) (other_keys on keys) in
    let lengths : length (other_keys on keys) ≡ length keys = ap length same in
    omega (arith, low, less, lengths, roomy)
few_new on keys room bound false e same roomy some few = few_full on keys bound (last_key keys) refl same some few

-- a value that is put leaves at most so many
few_put : (terms : Terms) (past : List Step) (on : QKey) (bound : ℕ) → terms.room ≤ bound → 1 ≤ bound → length (order past) ≤ bound
    → (b : Bool) → is_some (entry on past) ≡ b
    → length (rest_of on (cond b None (cond (nat_lt (length (order past)) terms.room) None (last_key (order past)))) (order past)) + 1 ≤ bound
few_put terms past on bound room some few true e =
    let less = one_fewer (λ other. not (same_key on other)) on (order past) (has_itself on) (order_has past on e) in
    let rest = fewer (λ other. not (is_evicted other None)) (other_keys on (order past)) in
    omega (arith, less, rest, few)
few_put terms past on bound room some few false e =
    few_new on (order past) terms.room bound (nat_lt (length (order past)) terms.room) refl (order-without past on e) room some few

few_hit : (past : List Step) (on : QKey) (bound : ℕ) → length (order past) ≤ bound → (b : Bool) → is_some (entry on past) ≡ b
    → length (cond b (on ∷ other_keys on (order past)) (order past)) ≤ bound
few_hit past on bound few true e =
    let less = one_fewer (λ other. not (same_key on other)) on (order past) (has_itself on) (order_has past on e) in omega (arith, less, few)
few_hit past on bound few false e = few

few_without : (on : QKey) (keys : List QKey) (bound : ℕ) → length keys ≤ bound → length (other_keys on keys) ≤ bound
few_without on keys bound few = let less = fewer (λ other. not (same_key on other)) keys in omega (arith, less)

few_either : (on : QKey) (keys : List QKey) (bound : ℕ) (b : Bool) → length keys ≤ bound → length (cond b keys (other_keys on keys)) ≤ bound
few_either on keys bound true few = few
few_either on keys bound false few = few_without on keys bound few

few_stored : (terms : Terms) (past : List Step) (on : QKey) (evicted : Option QKey) (bound : ℕ) → terms.room ≤ bound → 1 ≤ bound → evicted ≡ evicts terms on past
    → length (order past) ≤ bound → length (put_first on evicted (order past)) ≤ bound
few_stored terms past on evicted bound room some right few =
    let put = few_put terms past on bound room some few (is_some (entry on past)) refl in
    let few = subst (λ (o : Option QKey). length (rest_of on o (order past)) + 1 ≤ bound) (sym right) put in
    omega (arith, few)

few_step : (terms : Terms) (past : List Step) (step : Step) (bound : ℕ) → terms.room ≤ bound → 1 ≤ bound → MakesRoom terms past step → length (order past) ≤ bound
    → length (order_after step (entry (step_key step) past) (order past)) ≤ bound
few_step terms past (Hit on sid floor value stamp) bound room some right few = few_hit past on bound few (is_some (entry on past)) refl
few_step terms past (Lease on sid floor now token deadline) bound room some right few = few_without on (order past) bound few
few_step terms past (Again on sid floor now standing) bound room some right few = few_without on (order past) bound few
few_step terms past (Stored on token now value stamp evicted) bound room some right few = few_stored terms past on evicted bound room some right few
few_step terms past (Released on sid token Keep) bound room some right few = few
few_step terms past (Released on sid token Drop) bound room some right few = few_without on (order past) bound few
few_step terms past (Released on sid token (Put value stamp evicted)) bound room some right few = few_stored terms past on evicted bound room some right few
few_step terms past (Released on sid token (Shift by stamp)) bound room some right few =
    few_either on (order past) bound (is_some (entry_shifted by stamp (entry on past))) few
few_step terms past (Own on sid) bound room some right few = few
few_step terms past (Void on token now) bound room some right few = few
few_step terms past (Granted on sid mode shift now token deadline) bound room some right few = few
few_step terms past (Held on sid mode) bound room some right few = few
few_step terms past (Refused on sid mode holder held) bound room some right few = few
few_step terms past (Gone on sid token) bound room some right few = few
few_step terms past (Raised on sid token) bound room some right few = few
few_step terms past (Shared on sid token holder) bound room some right few = few
few_step terms past (Renewed on sid token now deadline) bound room some right few = few

pub order_few : (terms : Terms) (past : List Step) (bound : ℕ) → terms.room ≤ bound → 1 ≤ bound → IsLegalPast terms past → length (order past) ≤ bound
order_few terms [] bound room some legal = omega arith
order_few terms (step ∷ past) bound room some legal =
    let right = answer_right terms past step legal.0 in
    subst (λ (keys : List QKey). length keys ≤ bound) (sym (order_by step past))
    (few_step terms past step bound room some right.0 (order_few terms past bound room some legal.1))
