-- What each statement that writes makes of the lists, by its text.
use Rattle.std.proofs.Common.{◌≡◌, ℕ, pos, Bool, true, false, List, [], ◌∷◌, Result, Ok, Err, IsTrue, OnOk, refl}
use Rattle.sqlite.specs.declared.types.Value.TheVariants.{Int, Text}
use Rattle.sqlite.specs.declared.error.Error.{Error}
use Rattle.sqlite.specs.State.{State, ExecutesInside}
use Rattle.sqlite_tables.specs.declared.pairs.Pair.{Pair}
use Rattle.sqlite_tables.specs.Lists.{Lists, AreLists, has_pair, state_number, with_pair, without_pair, with_name}
use Rattle.sqlite_tables.proofs.Meanings.{insert_text, delete_text, update_text}
use Rattle.sqlite_tables.proofs.InsertLemmas.{inserts, inserted}
use Rattle.sqlite_tables.proofs.DeleteLemmas.{deletes, deleted}
use Rattle.sqlite_tables.proofs.UpdateLemmas.{updates, named}

-- a fact that rests on no result holds where there is one
pub on_ok : {V E : Type 0} {P : Type 0} (r : Result V E) → P → OnOk r P
on_ok (Ok v) p = p
on_ok (Err e) p = tt

-- a call that answered ran inside a transaction
pub ran_inside : {P X : Type 0} (inside : Bool) (count : ℕ) (e : Error) → (inside ≡ false → (◌≡◌ {A = Result ℕ Error} (Ok count) (Err e)) × X) → (IsTrue inside → P) → P
ran_inside true count e ended runs = runs refl
ran_inside false count e ended runs = absurd (let no = (ended refl).0 in cc)

module _ (old new : State) (lists : Lists) (are : AreLists old.now lists) (count : ℕ) where
  pub put : (pair : Pair) → has_pair pair.a pair.b lists ≡ false → ExecutesInside 0 insert_text (Int (pos pair.a) ∷ Int (pos pair.b) ∷ Int (pos (state_number pair.state)) ∷ []) old new (Ok count)
      → AreLists new.now (with_pair pair lists)
  put pair free h = inserted old.now new.now pair lists are free (inserts old new (pos pair.a) (pos pair.b) (pos (state_number pair.state)) count are.tables h.0)

  pub taken : (a b : ℕ) → ExecutesInside 0 delete_text (Int (pos a) ∷ Int (pos b) ∷ []) old new (Ok count) → AreLists new.now (without_pair a b lists)
  taken a b h = deleted a b old.now new.now lists are (deletes old new (pos a) (pos b) count are.tables h.0)

  pub set : (id : ℕ) (name : List ℕ) → ExecutesInside 0 update_text (Int (pos id) ∷ Text name ∷ []) old new (Ok count) → AreLists new.now (with_name id name lists)
  set id name h = named old.now new.now id name lists are (updates old new id name lists count are h.0)
