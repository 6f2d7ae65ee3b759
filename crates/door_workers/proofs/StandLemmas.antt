-- How far workers have come at their door, one line further.
use Rattle.std.proofs.Common.{ℕ, suc, ◌≡◌, ◌∙◌, ◌+◌, ◌-◌, ◌^◌, ◌≤◌, ◌<◌, List, [], length, Option, Some, None, refl, sym, ap, subst, arith, inl, inr}
use Rattle.std.specs.Prelude.{◌⊎◌, ◌||◌, Bool, true, false, min, Vec, IfSome, MatchBool, vec_capacity}
use Rattle.std.specs.Global.{Global}
use Rattle.std.proofs.lemmas.Bool.{leb-false, leb-true}
use Rattle.iq_outside.specs.Outside.{Rose, count_up}
use Rattle.conn_server.specs.declared.ends.LineEnd.{LineEnd}
use Rattle.door_workers.specs.declared.progress.Progress.{Progress}
use Rattle.door_workers.specs.Attending.{GivesBack, HaveEnds, IsEnough, HaveCome, HaveComeWith, WasAttended, at_start, count_up_by, is_full, is_over}
use Rattle.door_workers.specs.DoorSeen.{DoorSeen}

-- ---- nothing is done yet

none_few : (most : Option ℕ) → IfSome most (λ m. 0 ≤ m)
none_few None = tt
none_few (Some most) = omega arith

none_have : (most : Option ℕ) (ends : List LineEnd) → ends ≡ [] → HaveEnds most 0 ends
none_have None ends none = none
none_have (Some most) ends none = ap length none

none_back : (closed : Option ℕ) → GivesBack 0 closed closed
none_back None = inl refl
none_back (Some count) = inr (ap (λ (n : ℕ). Some n) (omega arith))

stand-first : (first : DoorSeen) (most : Option ℕ) (ends : Vec LineEnd Global) → ends.items ≡ [] → IfSome most (λ m. m ≤ vec_capacity ends)
    → HaveCome first most first (at_start most ends) 0 0
stand-first first most ends none room = record {
  most_is = refl;
  few = none_few most;
  room = room;
  have_ends = none_have most ends.items none;
  accepted = refl;
  bound = refl;
  counted = refl;
  failed = refl;
  never_falls = omega arith;
  ended = λ is. absurd cc;
  given_back = none_back first.closed;
}

pub at-first : (first : DoorSeen) (most : Option ℕ) (ends : Vec LineEnd Global) (so_far : Progress) → so_far ≡ at_start most ends → ends.items ≡ []
    → IfSome most (λ m. m ≤ vec_capacity ends) → HaveComeWith first so_far.most first so_far 0
at-first first most ends so_far is none room =
    subst (λ (p : Progress). HaveComeWith first p.most first p 0) (sym is) (0, stand-first first most ends none room)

-- ---- how many lines there may be

few-same : (most : Option ℕ) (lines others : ℕ) → others ≡ lines → IfSome most (λ m. lines ≤ m) → IfSome most (λ m. others ≤ m)
few-same most lines others same few = subst (λ (n : ℕ). IfSome most (λ m. n ≤ m)) (sym same) few

-- one more line may be accepted, where not as many were as may be
few-more : (most : Option ℕ) (lines accepted : ℕ) → accepted ≡ min lines (2 ^ 64 - 1) → is_full most accepted ≡ false
    → IfSome most (λ m. m < 2 ^ 32) → IfSome most (λ m. lines ≤ m) → IfSome most (λ m. lines + 1 ≤ m)
few-more None lines accepted counted full small few = tt
few-more (Some most) lines accepted counted full small few =
    let below : accepted < most = leb-false most accepted full in
    omega (arith, counted, below, small, few)

left_false : (a b : Bool) → (a || b) ≡ false → a ≡ false
left_false true b e = absurd cc
left_false false b e = refl

not-full : (so_far : Progress) (most : Option ℕ) → so_far.most ≡ most → is_over so_far ≡ false → is_full most so_far.accepted ≡ false
not-full so_far most is going =
    subst (λ (o : Option ℕ). is_full o so_far.accepted ≡ false) is (left_false (is_full so_far.most so_far.accepted) so_far.ended (left_false _ so_far.failed going))

-- a count of lines, one line further
more-counted : (now new first lines : ℕ) → new ≡ count_up now → now ≡ count_up_by lines first → new ≡ count_up_by (lines + 1) first
more-counted now new first lines up counted =
    let next : suc lines ≡ lines + 1 = omega arith in
    up ∙ ap count_up counted ∙ ap (λ (n : ℕ). count_up_by n first) next

same-counted : (lines others now new first : ℕ) → others ≡ lines → new ≡ now → now ≡ count_up_by lines first → new ≡ count_up_by others first
same-counted lines others now new first same is counted = is ∙ counted ∙ ap (λ (n : ℕ). count_up_by n first) (sym same)

-- ---- one more line was accepted

pub one-accepted : (first : DoorSeen) (most : Option ℕ) (now new : DoorSeen) (so_far : Progress) (accepted back out : ℕ)
    → is_over so_far ≡ false → IfSome so_far.most (λ m. m < 2 ^ 32) → accepted ≡ count_up so_far.accepted
    → new.bound ≡ now.bound → new.lines ≡ count_up now.lines → new.faults ≡ now.faults → new.ended ≡ now.ended → new.closed ≡ now.closed
    → HaveCome first most now so_far back out
    → HaveCome first most new (record { most = so_far.most; accepted = accepted; ends = so_far.ends; ended = so_far.ended; failed = so_far.failed }) back (out + 1)
one-accepted first most now new so_far accepted back out going small up bound lines faults ended closed s =
    let before : so_far.accepted ≡ min (back + out) (2 ^ 64 - 1) = s.accepted in
    record {
      most_is = s.most_is;
      few = few-same most (back + out + 1) (back + (out + 1)) (omega arith)
          (few-more most (back + out) so_far.accepted s.accepted (not-full so_far most s.most_is going)
          (subst (λ (o : Option ℕ). IfSome o (λ m. m < 2 ^ 32)) s.most_is small) s.few);
      room = s.room;
      have_ends = s.have_ends;
      accepted = omega (arith, before, up);
      bound = bound ∙ s.bound;
      counted = same-counted (back + out + 1) (back + (out + 1)) new.lines new.lines first.lines (omega arith) refl
          (more-counted now.lines new.lines first.lines (back + out) lines s.counted);
      failed = subst (λ (n : ℕ). MatchBool so_far.failed (Rose first.faults n) (n ≡ first.faults)) (sym faults) s.failed;
      never_falls = subst (λ (n : ℕ). first.faults ≤ n) (sym faults) s.never_falls;
      ended = λ is. ended ∙ s.ended is;
      given_back = subst (λ (o : Option ℕ). GivesBack back first.closed o) (sym closed) s.given_back;
    }

-- ---- what is kept of the ends

-- there is room for one more end, where a line is being served
pub room-more : (kept most : Option ℕ) (back out room : ℕ) (ends : List LineEnd) → kept ≡ most → IfSome most (λ m. back + (out + 1) ≤ m)
    → IfSome most (λ m. m ≤ room) → HaveEnds most back ends → IfSome kept (λ m. length ends < room)
room-more kept None back out room ends k few fits have = subst (λ (o : Option ℕ). IfSome o (λ m. length ends < room)) (sym k) tt
room-more kept (Some most) back out room ends k few fits have =
    subst (λ (o : Option ℕ). IfSome o (λ m. length ends < room)) (sym k) (omega (arith, few, fits, have))

-- ---- at the end

over_by : (full ended failed : Bool) → (full || ended || failed) ≡ true → failed ≡ false → (full ≡ true) ⊎ (ended ≡ true)
over_by true ended failed over none = inl refl
over_by false true failed over none = inr refl
over_by false false failed over none = absurd cc

enough : (most : Option ℕ) (lines accepted : ℕ) (ended : Bool) → accepted ≡ min lines (2 ^ 64 - 1) → IfSome most (λ m. lines ≤ m)
    → (is_full most accepted ≡ true) ⊎ (ended ≡ true) → IsEnough most lines ended
enough None lines accepted ended counted few (inl full) = absurd cc
enough None lines accepted ended counted few (inr is) = is
enough (Some most) lines accepted ended counted few (inl full) =
    let above : most ≤ accepted = leb-true most accepted full in
    inl (omega (arith, counted, few, above))
enough (Some most) lines accepted ended counted few (inr is) = inr is

over-ended : (so_far : Progress) (now : DoorSeen) → (so_far.ended ≡ true → now.ended ≡ true) → (is_full so_far.most so_far.accepted ≡ true) ⊎ (so_far.ended ≡ true)
    → (is_full so_far.most so_far.accepted ≡ true) ⊎ (now.ended ≡ true)
over-ended so_far now same (inl full) = inl full
over-ended so_far now same (inr ended) = inr (same ended)

-- where all lines were handed back and none is to be accepted any more
attended : (first now : DoorSeen) (most : Option ℕ) (so_far : Progress) → HaveComeWith first most now so_far 0 → is_over so_far ≡ true
    → WasAttended most first now so_far.ends.items so_far.accepted so_far.failed
attended first now most so_far (back, s) over =
    let none : back + 0 ≡ back = omega arith in
    let few : IfSome most (λ m. back ≤ m) = few-same most (back + 0) back (sym none) s.few in
    let counted : so_far.accepted ≡ min back (2 ^ 64 - 1) = s.accepted ∙ ap (λ (n : ℕ). min n (2 ^ 64 - 1)) none in
    record {
      lines = back;
      few = few;
      have_ends = s.have_ends;
      served_is = counted;
      bound = s.bound;
      counted = s.counted ∙ ap (λ (n : ℕ). count_up_by n first.lines) none;
      given_back = s.given_back;
      all = λ ok. enough most back so_far.accepted now.ended counted few
          (subst (λ (o : Option ℕ). (is_full o so_far.accepted ≡ true) ⊎ (now.ended ≡ true)) s.most_is
          (over-ended so_far now s.ended (over_by (is_full so_far.most so_far.accepted) so_far.ended so_far.failed over ok)));
    }

pub attended-as : (first now : DoorSeen) (most conns : Option ℕ) (so_far : Progress) → most ≡ conns → HaveComeWith first most now so_far 0 → is_over so_far ≡ true
    → WasAttended conns first now so_far.ends.items so_far.accepted so_far.failed
attended-as first now most conns so_far same stands over =
    subst (λ (o : Option ℕ). WasAttended o first now so_far.ends.items so_far.accepted so_far.failed) same (attended first now most so_far stands over)
