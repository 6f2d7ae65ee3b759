-- Two calls inside a transaction, one after the other.
use Rattle.std.proofs.Common.{◌≡◌, sym, subst, ◌∙◌, arith}
use Rattle.sqlite_trees.specs.declared.store.Store.{Ghosts}
use Rattle.sqlite.specs.Effect.{Database}
use Rattle.sqlite.specs.State.{HasCleanDisk}
use Rattle.sqlite.specs.Held.{Held, state}
use Rattle.sqlite_tables.specs.Lists.{Lists, AreLists, lists_of}
use Rattle.sqlite_tables.specs.Calls.{OnLists, Leaves}
use Rattle.sqlite_keeper.specs.declared.bonds.Tally.{Tally}
use Rattle.sqlite_keeper.specs.Bases.{IsCounted, Stays}

-- a disk that has told no lie after a call told none before it
pub clean_before : {S : Type 0} (g : Ghosts S) (a b : Held S) → Leaves g a b → HasCleanDisk (state g b) → HasCleanDisk (state g a)
clean_before g a b leaves clean = omega (arith, leaves.clean, clean)

-- what the second call is told of holds lists
pub leaves_then : {S : Type 0} (g : Ghosts S) (a b c : Held S) → Leaves g a b → OnLists g a b (λ _. (later : Lists) × AreLists (state g b).now later)
    → Leaves g b c → Leaves g a c
leaves_then g a b c one mid two = record {
  clean = omega (arith, one.clean, two.clean);
  was_open = λ clean up. one.was_open (clean_before g b c two clean) (two.was_open clean up);
  committed = λ clean lists are up.
      let early = clean_before g b c two clean in
      let later = mid early lists are in
      two.committed clean later.0 later.1 up ∙ one.committed early lists are (two.was_open clean up);
}

-- the first call changed nothing
pub same_lists : {S : Type 0} (g : Ghosts S) (a b : Held S) → OnLists g a b (λ _. (state g b).now ≡ (state g a).now)
    → OnLists g a b (λ lists. AreLists (state g b).now lists)
same_lists g a b same clean lists are = subst (λ (db : Database). AreLists db lists) (sym (same clean lists are)) are

pub leaves_same : {S : Type 0} (g : Ghosts S) (a b c : Held S) → Leaves g a b → OnLists g a b (λ _. (state g b).now ≡ (state g a).now)
    → Leaves g b c → Leaves g a c
leaves_same g a b c one same two = leaves_then g a b c one (λ clean lists are. (lists, same_lists g a b same clean lists are)) two

pub on_lists_same : {S : Type 0} (g : Ghosts S) (a b c : Held S) (P : Lists → Type 0) → OnLists g a b (λ _. (state g b).now ≡ (state g a).now)
    → Leaves g b c → OnLists g b c P → OnLists g a c P
on_lists_same g a b c P same leaves after clean lists are =
    after clean lists (same_lists g a b same (clean_before g b c leaves clean) lists are)

-- a call that leaves the last commit of any lists leaves that of counted rows
pub stays_of : {S : Type 0} (g : Ghosts S) (tally : Tally) (a b : Held S) → Leaves g a b → Stays g tally a b
stays_of g tally a b leaves = record {
  clean = leaves.clean;
  was_open = leaves.was_open;
  committed = λ clean counted up. leaves.committed clean (lists_of (state g a).now) counted.lists up;
}

-- and so do two, one after the other
pub stays_then : {S : Type 0} (g : Ghosts S) (tally later : Tally) (a b c : Held S) → Stays g tally a b
    → (HasCleanDisk (state g b) → IsCounted tally (state g a).now → IsCounted later (state g b).now) → Stays g later b c → Stays g tally a c
stays_then g tally later a b c one mid two = record {
  clean = omega (arith, one.clean, two.clean);
  was_open = λ clean up.
      let early : HasCleanDisk (state g b) = omega (arith, two.clean, clean) in
      one.was_open early (two.was_open clean up);
  committed = λ clean counted up.
      let early : HasCleanDisk (state g b) = omega (arith, two.clean, clean) in
      two.committed clean (mid early counted) up ∙ one.committed early counted (two.was_open clean up);
}
