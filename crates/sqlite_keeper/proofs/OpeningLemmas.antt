-- The rows of a database that was just made.
use Rattle.std.proofs.Common.{◌≡◌, ℕ, ◌+◌, ◌<◌, ◌==◌, ◌&&◌, if◌then◌else◌, Bool, true, false, List, [], ◌∷◌, ◌++◌, length, get_or, take, All, AllPairs, refl, sym, ap, subst, ◌∙◌, add-one, arith}
use Rattle.std.proofs.Math.Seq.{take-suc, take-length}
use Rattle.std.proofs.lemmas.Bool.{ne_eqb}
use Rattle.std.proofs.lemmas.List.{get_or-take, get_or_default, length-take}
use Rattle.rows_model.specs.declared.rows.Member.{Member}
use Rattle.rows_model.specs.Rows.{Tables, Fit, start_tables}
use Rattle.sqlite.specs.Effect.{Database}
use Rattle.sqlite_trees.specs.Tree.{Trees}
use Rattle.sqlite_tables.specs.declared.pairs.Pair.{Pair}
use Rattle.sqlite_tables.specs.Schema.{store_schema}
use Rattle.sqlite_tables.specs.Lists.{Lists, AreLists, HoldLists, tables_of, with_member}
use Rattle.sqlite_tables.proofs.WholeLemmas.{lists_are_one}
use Rattle.sqlite_keeper.specs.declared.bonds.Tally.{Tally}
use Rattle.sqlite_keeper.specs.Bonds.{IsTallied}
use Rattle.sqlite_keeper.specs.Bases.{rows_in, IsCounted}
use Rattle.sqlite_keeper.specs.Openings.{members_alone, HoldsRows, begun}

-- the rows of the start are their members alone
start_alone : (n : ℕ) → tables_of (members_alone (start_tables n).members) ≡ start_tables n
unfolding start_tables
start_alone n = refl

-- a database that holds the members of the start holds its rows
pub start_held : (db : Database) (rows : Tables) (n : ℕ) → rows ≡ start_tables n → AreLists db (members_alone rows.members) → rows_in db ≡ rows
start_held db rows n e are =
    let same = lists_are_one db (members_alone rows.members) are in
    ap tables_of same ∙ subst (λ (t : Tables). tables_of (members_alone t.members) ≡ t) (sym e) (start_alone n)

pub start_counted : (db : Database) (rows : Tables) (n : ℕ) (tally : Tally) → rows ≡ start_tables n → Fit rows → IsTallied tally rows
    → AreLists db (members_alone rows.members) → IsCounted tally db
start_counted db rows n tally e fit tallied are =
    let held = start_held db rows n e are in
    let same = lists_are_one db (members_alone rows.members) are in
    record {
      lists = subst (λ (l : Lists). AreLists db l) (sym same) are;
      fit = subst Fit (sym held) fit;
      tallied = subst (λ (t : Tables). IsTallied tally t) (sym held) tallied;
    }

-- members so far, all below the next
pub below_next : (members : List Member) (k : ℕ) (m : Member) → k < length members → m ≡ get_or members k m
    → AllPairs (λ one later. one.id < later.id) members → All (λ other. other.id < m.id) (take k members)
below_next members k m l here order = λ i d low.
    let long = length-take k members in
    let within : i < k = omega (arith, low, long) in
    let one : get_or (take k members) i d ≡ get_or members i d = get_or-take k members i d within in
    let at : get_or members k d ≡ m = get_or_default members k d m l ∙ sym here in
    rw one (subst (λ (n : Member). (get_or members i d).id < n.id) at (order i k d within l))

-- one member more
pub members_more : (members : List Member) (k : ℕ) (m : Member) → k < length members → m ≡ get_or members k m
    → with_member m (members_alone (take k members)) ≡ members_alone (take (k + 1) members)
members_more members k m l here =
    let more : take (k + 1) members ≡ take k members ++ get_or members k m ∷ [] = rw (add-one k) (take-suc members k m l) in
    ap members_alone (ap (λ (n : Member). take k members ++ n ∷ []) here ∙ sym more)

-- all of them
pub members_all : (members : List Member) (k : ℕ) → k ≡ length members → members_alone (take k members) ≡ members_alone members
members_all members k e = ap members_alone (ap (λ (n : ℕ). take n members) e ∙ take-length members)

-- a database that holds lists holds their rows
pub holds_rows : (db : Database) (lists : Lists) (rows : Tables) → AreLists db lists → rows ≡ tables_of lists → HoldsRows rows db
holds_rows db lists rows are is =
    let same = lists_are_one db lists are in
    record {
      lists = subst (λ (l : Lists). AreLists db l) (sym same) are;
      rows_are = ap tables_of same ∙ sym is;
    }

-- and so does one that holds the members of the start
pub holds_start : (db : Database) (rows : Tables) (n : ℕ) → rows ≡ start_tables n → AreLists db (members_alone rows.members) → HoldsRows rows db
holds_start db rows n e are =
    holds_rows db (members_alone rows.members) rows are (sym (subst (λ (t : Tables). tables_of (members_alone t.members) ≡ t) (sym e) (start_alone n)))

-- rows that a database holds are counted in it
pub holds_counted : (db : Database) (rows : Tables) (tally : Tally) → HoldsRows rows db → Fit rows → IsTallied tally rows → IsCounted tally db
holds_counted db rows tally holds fit tallied = record {
  lists = holds.lists;
  fit = subst Fit (sym holds.rows_are) fit;
  tallied = subst (λ (t : Tables). IsTallied tally t) (sym holds.rows_are) tallied;
}

-- rows that hold lists are those of a database with the store's tables
as_lists : (trees : Trees) (lists : Lists) → HoldLists trees lists → AreLists (record { schema = store_schema; trees = trees }) lists
as_lists trees lists h = record {
  tables = refl;
  members = h.members;
  members_ascend = h.members_ascend;
  rowids = h.rowids;
  pairs = h.pairs;
  pairs_ascend = h.pairs_ascend;
}

-- rows hold one pair of lists at most
pub held_are_one : (trees : Trees) (one other : Lists) → HoldLists trees one → HoldLists trees other → one ≡ other
held_are_one trees one other a b =
    let db : Database = record { schema = store_schema; trees = trees } in
    sym (lists_are_one db one (as_lists trees one a)) ∙ lists_are_one db other (as_lists trees other b)

-- a start on lists that have nothing begins with so many members
pub begun_bare : (n : ℕ) (ms : List Member) (ps : List Pair) → length ms ≡ 0 → length ps ≡ 0 → begun n (record { members = ms; pairs = ps }) ≡ start_tables n
begun_bare n [] [] a b = refl
begun_bare n [] (p ∷ ps) a b = absurd (omega (arith, b))
begun_bare n (m ∷ ms) ps a b = absurd (omega (arith, a))

-- the second, where the test fails
picked : (test : Bool) (one other : Tables) → test ≡ false → (if test then one else other) ≡ other
picked true one other e = absurd (cc)
picked false one other e = refl

-- and on others with their rows
pub begun_lists : (n : ℕ) (ms : List Member) (ps : List Pair) → 0 < length ms + length ps
    → begun n (record { members = ms; pairs = ps }) ≡ tables_of (record { members = ms; pairs = ps })
begun_lists n [] [] h = absurd (omega (arith, h))
begun_lists n [] (p ∷ ps) h =
    picked (length (p ∷ ps) == 0) (start_tables n) (tables_of (record { members = []; pairs = p ∷ ps })) (ne_eqb (length (p ∷ ps)) 0 (omega arith))
begun_lists n (m ∷ ms) ps h =
    let apart : (length (m ∷ ms) == 0) ≡ false = ne_eqb (length (m ∷ ms)) 0 (omega arith) in
    picked ((length (m ∷ ms) == 0) && (length ps == 0)) (start_tables n) (tables_of (record { members = m ∷ ms; pairs = ps }))
    (ap (λ (b : Bool). b && (length ps == 0)) apart)
