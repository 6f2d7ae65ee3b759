-- When rows can be made of members that are found.
use Rattle.std.proofs.Common.{ℕ, suc, ◌+◌, ◌<◌, ◌≤◌, ◌≡◌, true, false, List, [], ◌∷◌, ◌++◌, length, get_or, take, drop, All, AllPairs, refl, sym, ap, subst, ◌∙◌, add-one, arith}
use Rattle.std.specs.Prelude.{◌&&◌, nat_lt}
use Rattle.std.proofs.Math.Seq.{drop-cons, take-suc}
use Rattle.std.proofs.lemmas.Bool.{and_parts, and_from, ltb-true, lt-ltb, false≢true}
use Rattle.std.proofs.lemmas.List.Elements.{All-cons, All-head, All-tail, All-push}
use Rattle.std.proofs.lemmas.List.Kept.{AllPairs-cons}
use Rattle.rows_model.specs.declared.rows.Member.{Member}
use Rattle.rows_model.specs.Rows.{Fit}
use Rattle.rows_model.specs.Name.{IsName}
use Rattle.rows_model.specs.Members.{AreMembers, members_only, is_next, ascend_from}
use Rattle.rows_model.proofs.FitLemmas.{pairs_head, pairs_tail}

-- ids that ascend from above a number are above it, and at most 100,000
pub ids_above : (last : ℕ) (members : List Member) → ascend_from last members ≡ true → All (λ m. (last < m.id) × (m.id ≤ 100000)) members
ids_above last [] e = λ k d l. absurd (omega arith)
ids_above last (m ∷ ms) e =
    let parts = and_parts (is_next last m) (ascend_from m.id ms) e in
    let next = and_parts (nat_lt last m.id) (nat_lt m.id 100001) parts.0 in
    let low = ltb-true last m.id next.0 in
    let high = ltb-true m.id 100001 next.1 in
    All-cons (λ n. (last < n.id) × (n.id ≤ 100000)) m ms (low, omega (arith, high)) (λ k d l. let rest = ids_above m.id ms parts.1 k d l in (omega (arith, rest.0, low), rest.1))

-- and each is below the later ones
pub ids_ascend : (last : ℕ) (members : List Member) → ascend_from last members ≡ true → AllPairs (λ m later. m.id < later.id) members
ids_ascend last [] e = λ i j d low l. absurd (omega arith)
ids_ascend last (m ∷ ms) e =
    let parts = and_parts (is_next last m) (ascend_from m.id ms) e in
    AllPairs-cons (λ one later. one.id < later.id) m ms (λ k d l. (ids_above m.id ms parts.1 k d l).0) (ids_ascend m.id ms parts.1)

-- ids that are above a number, at most 100,000 and in order ascend from above it
pub ascend_back : (last : ℕ) (members : List Member) → All (λ m. (last < m.id) × (m.id ≤ 100000)) members
    → AllPairs (λ m later. m.id < later.id) members → ascend_from last members ≡ true
ascend_back last [] all pairs = refl
ascend_back last (m ∷ ms) all pairs =
    let here = All-head (λ n. (last < n.id) × (n.id ≤ 100000)) m ms all in
    let later = pairs_head (λ one later. one.id < later.id) m ms pairs in
    let tail = All-tail (λ n. (last < n.id) × (n.id ≤ 100000)) m ms all in
    let rest = ascend_back m.id ms (λ k d l. (later k d l, (tail k d l).1)) (pairs_tail (λ one later. one.id < later.id) m ms pairs) in
    and_from (is_next last m) (ascend_from m.id ms)
    (and_from (nat_lt last m.id) (nat_lt m.id 100001) (lt-ltb last m.id here.0) (lt-ltb m.id 100001 (omega (arith, here.1)))) rest

-- members that ascend with their names are fit rows
pub Fit-members : (members : List Member) → ascend_from 0 members ≡ true → All (λ m. IsName m.name) members → Fit (members_only members)
Fit-members members e names =
    record {
      ids = λ k d l. let here = ids_above 0 members e k d l in (omega (arith, here.0), here.1);
      names = names;
      members_ascend = ids_ascend 0 members e;
      links_join = λ k d l. absurd (omega arith);
      links_ascend = λ i j d low l. absurd (omega arith);
      one_link = λ i j d low l. absurd (omega arith);
      few_links = omega arith;
      blocks_join = λ k d l. absurd (omega arith);
      blocks_ascend = λ i j d low l. absurd (omega arith);
      few_blocks = omega arith;
    }

-- members that don't ascend are none
pub no_members : (members : List Member) → ascend_from 0 members ≡ false → AreMembers members → ⊥
no_members members e are =
    false≢true (sym e ∙ ascend_back 0 members (λ k d l. let here = are.ids k d l in (omega (arith, here.0), here.1)) are.ascend)

-- a turn of the test: the member at a place is the next one
pub ascend_more : (members : List Member) (k last : ℕ) (m : Member) → k < length members → m ≡ get_or members k m → is_next last m ≡ true
    → ascend_from last (drop k members) ≡ ascend_from m.id (drop (k + 1) members)
ascend_more members k last m l here next =
    rw (add-one k) (ap (ascend_from last) (drop-cons members k m l)
    ∙ (ap (λ (n : Member). is_next last n && ascend_from n.id (drop (suc k) members)) (sym here)
    ∙ ap (λ b. b && ascend_from m.id (drop (suc k) members)) next))

-- and what holds of the members before it, and of it, holds so far
pub all_more : (P : Member → Type 0) (members : List Member) (k : ℕ) (m : Member) → k < length members → m ≡ get_or members k m
    → All P (take k members) → P m → All P (take (k + 1) members)
all_more P members k m l here all holds =
    let more : take (k + 1) members ≡ take k members ++ get_or members k m ∷ [] = rw (add-one k) (take-suc members k m l) in
    subst (λ (ms : List Member). All P ms) (sym more) (All-push P (take k members) (get_or members k m) all (subst P here holds))
