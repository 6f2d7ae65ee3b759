-- What the pairs that name a member first or second tell of the answers about it.
use Rattle.std.proofs.Common.{ℕ, ◌<◌, ◌≤◌, ◌≡◌, Bool, true, false, List, [], ◌∷◌, ◌++◌, length, map, filter, All, AllPairs, refl, ap, ◌∙◌, arith}
use Rattle.std.specs.Prelude.{count_by, ◌==◌, cond}
use Rattle.std.specs.List.{flat_map}
use Rattle.std.proofs.lemmas.Bool.{eqb-true}
use Rattle.std.proofs.lemmas.List.{length-map, length-append}
use Rattle.std.proofs.lemmas.List.Sums.{length-filter}
use Rattle.std.proofs.lemmas.List.Elements.{All-nil, All-cons, All-head, All-tail}
use Rattle.rows_model.specs.declared.rows.Link.{Link}
use Rattle.rows_model.specs.declared.rows.LinkState.TheVariants as link
use Rattle.rows_model.specs.Rows.{BlockRow, is_friend}
use Rattle.rows_model.specs.Query.{invites, befriends, other_end, is_by}
use Rattle.rows_model.proofs.FitLemmas.{pairs_head, pairs_tail}
use Rattle.sqlite_tables.specs.declared.pairs.Pair.{Pair}
use Rattle.sqlite_tables.specs.declared.pairs.PairState.{PairState}
use Rattle.sqlite_tables.specs.declared.pairs.PairState.TheVariants.{Pending, Friend, Block}
use Rattle.sqlite_tables.specs.Lists.{state_number, IsPairBefore, link_in, block_in}
use Rattle.sqlite_keeper.specs.Texts.{has_state, firsts, seconds, friends_told}

-- the links and the blocks that pairs tell
abbrev pub links_in : List Pair → List Link
links_in pairs = flat_map (λ pair. link_in pair.a pair.b pair.state) pairs

abbrev pub blocks_in : List Pair → List BlockRow
blocks_in pairs = flat_map (λ pair. block_in pair.a pair.b pair.state) pairs

-- the pairs that name a member second, and first
abbrev to : ℕ → List Pair → List Pair
to id pairs = filter (λ pair. pair.b == id) pairs

abbrev from : ℕ → List Pair → List Pair
from id pairs = filter (λ pair. pair.a == id) pairs

abbrev pair_of : ℕ → ℕ → PairState → Pair
pair_of a b state = record { a = a; b = b; state = state }

abbrev friend_of : ℕ → ℕ → Link
friend_of a b = record { a = a; b = b; state = link.Friend }

-- those who invited a member
invited_go : (id a b : ℕ) (ps : List Pair) (s : PairState) (c : Bool) → (b == id) ≡ c
    → map (λ l. l.a) (filter (invites id) (links_in ps)) ≡ firsts Pending (to id ps)
    → map (λ l. l.a) (filter (invites id) (link_in a b s ++ links_in ps)) ≡ firsts Pending (cond c (pair_of a b s ∷ to id ps) (to id ps))
invited_go id a b ps Pending true e rest = rw e (ap (λ (xs : List ℕ). a ∷ xs) rest)
invited_go id a b ps Pending false e rest = rw e rest
invited_go id a b ps Friend true e rest = rest
invited_go id a b ps Friend false e rest = rest
invited_go id a b ps Block true e rest = rest
invited_go id a b ps Block false e rest = rest

pub invited : (id : ℕ) (ps : List Pair) → map (λ l. l.a) (filter (invites id) (links_in ps)) ≡ firsts Pending (to id ps)
invited id [] = refl
invited id (p ∷ ps) = invited_go id p.a p.b ps p.state (p.b == id) refl (invited id ps)

-- those whom a member has blocked
barred_go : (id a b : ℕ) (ps : List Pair) (s : PairState) (c : Bool) → (a == id) ≡ c
    → map (λ k. k.blocked) (filter (is_by id) (blocks_in ps)) ≡ seconds Block (from id ps)
    → map (λ k. k.blocked) (filter (is_by id) (block_in a b s ++ blocks_in ps)) ≡ seconds Block (cond c (pair_of a b s ∷ from id ps) (from id ps))
barred_go id a b ps Block true e rest = rw e (ap (λ (xs : List ℕ). b ∷ xs) rest)
barred_go id a b ps Block false e rest = rw e rest
barred_go id a b ps Pending true e rest = rest
barred_go id a b ps Pending false e rest = rest
barred_go id a b ps Friend true e rest = rest
barred_go id a b ps Friend false e rest = rest

pub barred : (id : ℕ) (ps : List Pair) → map (λ k. k.blocked) (filter (is_by id) (blocks_in ps)) ≡ seconds Block (from id ps)
barred id [] = refl
barred id (p ∷ ps) = barred_go id p.a p.b ps p.state (p.a == id) refl (barred id ps)

-- a friendship names the smaller id first
abbrev pub IsSmaller : Pair → Type 0
IsSmaller p = state_number p.state ≡ 1 → p.a < p.b

-- among friendships with others whose ids aren't smaller, none names the member second
unnamed_go : (id a b : ℕ) (ps : List Pair) (s : PairState) (c : Bool) → (b == id) ≡ c → id ≤ a → (state_number s ≡ 1 → a < b)
    → firsts Friend (to id ps) ≡ [] → firsts Friend (cond c (pair_of a b s ∷ to id ps) (to id ps)) ≡ []
unnamed_go id a b ps Friend true e low smaller rest = let same = eqb-true b id e in let less = smaller refl in absurd (omega (arith, same, less, low))
unnamed_go id a b ps Friend false e low smaller rest = rest
unnamed_go id a b ps Pending true e low smaller rest = rest
unnamed_go id a b ps Pending false e low smaller rest = rest
unnamed_go id a b ps Block true e low smaller rest = rest
unnamed_go id a b ps Block false e low smaller rest = rest

unnamed : (id : ℕ) (ps : List Pair) → All (λ p. id ≤ p.a) ps → All IsSmaller ps → firsts Friend (to id ps) ≡ []
unnamed id [] low smaller = refl
unnamed id (p ∷ ps) low smaller =
    unnamed_go id p.a p.b ps p.state (p.b == id) refl (All-head (λ q. id ≤ q.a) p ps low) (All-head IsSmaller p ps smaller)
    (unnamed id ps (All-tail (λ q. id ≤ q.a) p ps low) (All-tail IsSmaller p ps smaller))

-- the friends of a member: those with smaller ids, and then the others
befriended_go : (id a b : ℕ) (ps : List Pair) (s : PairState) (c d : Bool) → (a == id) ≡ c → (b == id) ≡ d → (state_number s ≡ 1 → a < b)
    → (c ≡ true → firsts Friend (to id ps) ≡ [])
    → map (other_end id) (filter (befriends id) (links_in ps)) ≡ firsts Friend (to id ps) ++ seconds Friend (from id ps)
    → map (other_end id) (filter (befriends id) (link_in a b s ++ links_in ps))
    ≡ firsts Friend (cond d (pair_of a b s ∷ to id ps) (to id ps)) ++ seconds Friend (cond c (pair_of a b s ∷ from id ps) (from id ps))
befriended_go id a b ps Friend true true ec ed smaller none rest =
    let one = eqb-true a id ec in let two = eqb-true b id ed in let less = smaller refl in absurd (omega (arith, one, two, less))
befriended_go id a b ps Friend true false ec ed smaller none rest =
    let gone = none refl in
    let tail : map (other_end id) (filter (befriends id) (links_in ps)) ≡ seconds Friend (from id ps) =
    rest ∙ ap (λ (xs : List ℕ). xs ++ seconds Friend (from id ps)) gone in
    let here : other_end id (friend_of a b) ≡ b = ap (λ k. cond k b a) ec in
    rw (ec, gone) (ap (λ (x : ℕ). x ∷ map (other_end id) (filter (befriends id) (links_in ps))) here ∙ ap (λ (xs : List ℕ). b ∷ xs) tail)
befriended_go id a b ps Friend false true ec ed smaller none rest =
    let here : other_end id (friend_of a b) ≡ a = ap (λ k. cond k b a) ec in
    rw (ec, ed) (ap (λ (x : ℕ). x ∷ map (other_end id) (filter (befriends id) (links_in ps))) here ∙ ap (λ (xs : List ℕ). a ∷ xs) rest)
befriended_go id a b ps Friend false false ec ed smaller none rest = rw (ec, ed) rest
befriended_go id a b ps Pending true true ec ed smaller none rest = rest
befriended_go id a b ps Pending true false ec ed smaller none rest = rest
befriended_go id a b ps Pending false true ec ed smaller none rest = rest
befriended_go id a b ps Pending false false ec ed smaller none rest = rest
befriended_go id a b ps Block true true ec ed smaller none rest = rest
befriended_go id a b ps Block true false ec ed smaller none rest = rest
befriended_go id a b ps Block false true ec ed smaller none rest = rest
befriended_go id a b ps Block false false ec ed smaller none rest = rest

pub befriended : (id : ℕ) (ps : List Pair) → AllPairs IsPairBefore ps → All IsSmaller ps
    → map (other_end id) (filter (befriends id) (links_in ps)) ≡ firsts Friend (to id ps) ++ seconds Friend (from id ps)
befriended id [] order smaller = refl
befriended id (p ∷ ps) order smaller =
    let later = pairs_head IsPairBefore p ps order in
    let rest_smaller = All-tail IsSmaller p ps smaller in
    befriended_go id p.a p.b ps p.state (p.a == id) (p.b == id) refl refl (All-head IsSmaller p ps smaller)
    (λ e. unnamed id ps (λ k d l. let low = (later k d l).0 in let same = eqb-true p.a id e in omega (arith, low, same)) rest_smaller)
    (befriended id ps (pairs_tail IsPairBefore p ps order) rest_smaller)

-- pairs whose links name the smaller friend first do so themselves
smaller_go : (a b : ℕ) (ps : List Pair) (s : PairState) → All (λ (l : Link). is_friend l.state ≡ true → l.a < l.b) (link_in a b s ++ links_in ps)
    → (state_number s ≡ 1 → a < b) × All (λ (l : Link). is_friend l.state ≡ true → l.a < l.b) (links_in ps)
smaller_go a b ps Pending all = (λ e. absurd (omega arith), All-tail (λ (l : Link). is_friend l.state ≡ true → l.a < l.b) _ (links_in ps) all)
smaller_go a b ps Friend all =
    (λ _. All-head (λ (l : Link). is_friend l.state ≡ true → l.a < l.b) _ (links_in ps) all refl, All-tail (λ (l : Link). is_friend l.state ≡ true → l.a < l.b) _ (links_in ps) all)
smaller_go a b ps Block all = (λ e. absurd (omega arith), all)

pub smaller_first : (ps : List Pair) → All (λ (l : Link). is_friend l.state ≡ true → l.a < l.b) (links_in ps) → All IsSmaller ps
smaller_first [] all = All-nil IsSmaller
smaller_first (p ∷ ps) all =
    let parts = smaller_go p.a p.b ps p.state all in
    All-cons IsSmaller p ps parts.0 (smaller_first ps parts.1)

-- how many friends a member has
pub friends_counted : (id : ℕ) (ps : List Pair) → AllPairs IsPairBefore ps → All IsSmaller ps
    → count_by (befriends id) (links_in ps) ≡ friends_told (from id ps) (to id ps)
friends_counted id ps order smaller =
    let list = ap length (befriended id ps order smaller) in
    let links = length-map (filter (befriends id) (links_in ps)) (other_end id) in
    let lows = length-map (filter (has_state Friend) (to id ps)) (λ p. p.a) in
    let highs = length-map (filter (has_state Friend) (from id ps)) (λ p. p.b) in
    let sum = length-append (firsts Friend (to id ps)) (seconds Friend (from id ps)) in
    let one = length-filter (befriends id) (links_in ps) in
    let two = length-filter (has_state Friend) (to id ps) in
    let three = length-filter (has_state Friend) (from id ps) in
    omega (arith, list, links, lows, highs, sum, one, two, three)

-- how many invitations to a member are pending
pub invited_counted : (id : ℕ) (ps : List Pair) → count_by (invites id) (links_in ps) ≡ count_by (has_state Pending) (to id ps)
invited_counted id ps =
    let list = ap length (invited id ps) in
    let links = length-map (filter (invites id) (links_in ps)) (λ l. l.a) in
    let lows = length-map (filter (has_state Pending) (to id ps)) (λ p. p.a) in
    let one = length-filter (invites id) (links_in ps) in
    let two = length-filter (has_state Pending) (to id ps) in
    omega (arith, list, links, lows, one, two)
