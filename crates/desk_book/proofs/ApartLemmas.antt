-- Grants that are set apart and put back.
use Rattle.std.proofs.Common.{ℕ, zero, suc, ◌≡◌, ◌+◌, ◌<◌, ◌≤◌, Bool, true, false, cond, List, [], ◌∷◌, ◌++◌, length, take, drop, filter, Some, slice_get}
use Rattle.std.proofs.Common.{refl, sym, ap, subst, ◌∙◌, arith, length-append}
use Rattle.std.specs.List.{insert, remove}
use Rattle.std.proofs.lemmas.List.Edits.{length-insert, length-remove}
use Rattle.std.proofs.lemmas.Option.{same_Some, none-some, slice_get_within}
use Rattle.key_shard.specs.Permit.{Permit}
use Rattle.session_client.proofs.TurnLemmas.{back_same}
use Rattle.session_client.specs.Grants.{GrantsView}
use Rattle.desk_book.specs.Apart.{put_back, HavePlaces, AreLeft}
use Rattle.desk_book.specs.declared.apart.Other.{Other}

-- the one that was set apart last is put back first
pub back-push : (others : List Other) (last : Other) (grants : List Permit)
    → put_back (others ++ last ∷ []) grants ≡ put_back others (insert grants last.place last.grant)
back-push [] last grants = refl
back-push (other ∷ others) last grants = ap (λ l. insert l other.place other.grant) (back-push others last grants)

-- one more that is set apart from its place
pub back-more : (others : List Other) (place : ℕ) (grant : Permit) (grants : List Permit) → slice_get grants place ≡ Some grant
    → put_back (others ++ record { place = place; grant = grant } ∷ []) (remove grants place) ≡ put_back others grants
back-more others place grant grants at =
    back-push others (record { place = place; grant = grant }) (remove grants place) ∙ ap (put_back others) (back_same grants place grant at)

length-push : (others : List Other) (last : Other) → length (others ++ last ∷ []) ≡ length others + 1
length-push others last = length-append others (last ∷ [])

pub places-push : (others : List Other) (last : Other) (count room : ℕ) → last.place ≤ count → count < room
    → HavePlaces others (count + 1) room → HavePlaces (others ++ last ∷ []) count room
places-push [] last count room within vacant h = (omega (arith, within), omega (arith, vacant), tt)
places-push (other ∷ others) last count room within vacant h =
    let longer = length-push others last in
    let first = h.0 in
    let space = h.1 in
    (omega (arith, longer, first), omega (arith, longer, space), places-push others last count room within vacant h.2)

-- the last has its place, and the others have theirs once it is put back
pub record HasLast (others : List Other) (last : Other) (count room : ℕ) : Type 0 where
  pub within : last.place ≤ count
  pub vacant : count < room
  pub rest : HavePlaces others (count + 1) room

pub places-pop : (others : List Other) (last : Other) (count room : ℕ) → HavePlaces (others ++ last ∷ []) count room → HasLast others last count room
places-pop [] last count room h =
    let first = h.0 in
    let space = h.1 in
    record { within = omega (arith, first); vacant = omega (arith, space); rest = tt }
places-pop (other ∷ others) last count room h =
    let found = places-pop others last count room h.2 in
    let longer = length-push others last in
    let first = h.0 in
    let space = h.1 in
    record { within = found.within; vacant = found.vacant; rest = (omega (arith, longer, first), omega (arith, longer, space), found.rest) }

-- they have their places where there is more room
pub places-roomy : (others : List Other) (count room more : ℕ) → room ≤ more → HavePlaces others count room → HavePlaces others count more
places-roomy [] count room more le h = tt
places-roomy (other ∷ others) count room more le h =
    let space = h.1 in (h.0, omega (arith, space, le), places-roomy others count room more le h.2)

pub places-left : (others : List Other) (grants : GrantsView) → AreLeft others grants → HavePlaces others (length grants.items) grants.room
places-left others grants h =
    subst (λ (l : List Permit). HavePlaces others (length l) grants.room) (sym h.1.same)
    (places-roomy others (length h.0.items) h.0.room grants.room h.1.roomy h.2)

-- what was looked at is held, and of the rest those that are held are still to come
pub keep-step : {X : Type 0} (p : X → Bool) (xs : List X) (i : ℕ) (x : X) → slice_get xs i ≡ Some x → p x ≡ true
    → take (suc i) xs ++ filter p (drop (suc i) xs) ≡ take i xs ++ filter p (drop i xs)
keep-step p [] i x at is = absurd (none-some x at)
keep-step p (y ∷ xs) zero x at is =
    sym (ap (λ b. cond b (y ∷ filter p xs) (filter p xs)) (ap p (same_Some y x at) ∙ is))
keep-step p (y ∷ xs) (suc i) x at is = ap (λ l. y ∷ l) (keep-step p xs i x at is)

pub skip-step : {X : Type 0} (p : X → Bool) (xs : List X) (i : ℕ) (x : X) → slice_get xs i ≡ Some x → p x ≡ false
    → take i (remove xs i) ++ filter p (drop i (remove xs i)) ≡ take i xs ++ filter p (drop i xs)
skip-step p [] i x at is = absurd (none-some x at)
skip-step p (y ∷ xs) zero x at is =
    sym (ap (λ b. cond b (y ∷ filter p xs) (filter p xs)) (ap p (same_Some y x at) ∙ is))
skip-step p (y ∷ xs) (suc i) x at is = ap (λ l. y ∷ l) (skip-step p xs i x at is)

-- so many of the grants were looked at: those that are held are left, and the others set apart
pub record IsSetApart (held : Permit → Bool) (all left : GrantsView) (others : List Other) (place : ℕ) : Type 0 where
  pub within : place ≤ length left.items
  pub count : length left.items + length others ≡ length all.items
  pub room : left.room ≡ all.room
  pub looked : take place left.items ++ filter held (drop place left.items) ≡ filter held all.items
  pub back : put_back others left.items ≡ all.items
  pub places : HavePlaces others (length left.items) left.room

pub apart-none : (held : Permit → Bool) (all : GrantsView) → IsSetApart held all all [] 0
apart-none held all = record { within = omega arith; count = omega arith; room = refl; looked = refl; back = refl; places = tt }

suc-plus : (n : ℕ) → suc n ≡ n + 1
suc-plus n = omega arith

-- the next one is held
pub apart-kept : (held : Permit → Bool) (all left : GrantsView) (others : List Other) (place : ℕ) (grant : Permit)
    → slice_get left.items place ≡ Some grant → held grant ≡ true → IsSetApart held all left others place → IsSetApart held all left others (place + 1)
apart-kept held all left others place grant at is s =
    let less = slice_get_within left.items place grant at in
    record {
      within = omega (arith, less);
      count = s.count;
      room = s.room;
      looked = ap (λ n. take n left.items ++ filter held (drop n left.items)) (sym (suc-plus place))
          ∙ keep-step held left.items place grant at is ∙ s.looked;
      back = s.back;
      places = s.places;
    }

-- the next one isn't, and is set apart
pub apart-more : (held : Permit → Bool) (all left new : GrantsView) (others : List Other) (place : ℕ) (grant : Permit)
    → slice_get left.items place ≡ Some grant → held grant ≡ false → new.items ≡ remove left.items place → new.room ≡ left.room
    → length new.items < new.room → IsSetApart held all left others place
    → IsSetApart held all new (others ++ record { place = place; grant = grant } ∷ []) place
apart-more held all left new others place grant at not_held items room vacant s =
    let last : Other = record { place = place; grant = grant } in
    let less = slice_get_within left.items place grant at in
    let shorter : length new.items + 1 ≡ length left.items = ap (λ (l : List Permit). length l + 1) items ∙ length-remove left.items place less in
    let longer = length-push others last in
    let count = s.count in
    record {
      within = omega (arith, shorter, less);
      count = omega (arith, shorter, longer, count);
      room = room ∙ s.room;
      looked = ap (λ l. take place l ++ filter held (drop place l)) items ∙ skip-step held left.items place grant at not_held ∙ s.looked;
      back = ap (put_back (others ++ last ∷ [])) items ∙ back-more others place grant left.items at ∙ s.back;
      places = places-push others last (length new.items) new.room (omega (arith, shorter, less)) vacant
          (subst (λ n. HavePlaces others n new.room) (sym shorter) (subst (HavePlaces others (length left.items)) (sym room) s.places));
    }

-- some of the others are put back
pub record IsJoined (all : List Other) (old : GrantsView) (others : List Other) (new : GrantsView) : Type 0 where
  pub back : put_back others new.items ≡ put_back all old.items
  pub room : new.room ≡ old.room
  pub places : HavePlaces others (length new.items) new.room

-- one more is put back
pub joined-more : (all : List Other) (old before after : GrantsView) (others : List Other) (last : Other)
    → after.items ≡ insert before.items last.place last.grant → after.room ≡ before.room
    → IsJoined all old (others ++ last ∷ []) before → IsJoined all old others after
joined-more all old before after others last items room j =
    let found = places-pop others last (length before.items) before.room j.places in
    let within = found.within in
    let longer : length after.items ≡ length before.items + 1 = ap (λ (l : List Permit). length l) items ∙ length-insert before.items last.place last.grant within in
    record {
      back = ap (put_back others) items ∙ sym (back-push others last before.items) ∙ j.back;
      room = room ∙ j.room;
      places = subst (λ n. HavePlaces others n after.room) (sym longer) (subst (HavePlaces others (length before.items + 1)) (sym room) found.rest);
    }
