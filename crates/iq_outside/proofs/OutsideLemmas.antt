-- Counts of faults and bytes over several calls.
use Rattle.std.proofs.Common.{◌≡◌, ℕ, ◌≤◌, List, [], ◌++◌, take, refl, sym, ◌∙◌, ap, arith, append_assoc, append-nil, inl, inr}
use Rattle.std.specs.Prelude.{Option, Some, None}
use Rattle.std.specs.Option.{option_map}
use Rattle.iq_outside.specs.Outside.{Rose, Takes, TakesSome, TakesAtMost, AtEnd, ZeroAtEnd, Gains}

-- a count that never falls before and rises then has risen over both calls
pub Rose-later : (a b c : ℕ) → a ≤ b → Rose b c → Rose a c
Rose-later a b c le (inl h) = inl (omega arith)
Rose-later a b c le (inr h) = inr h

-- a count that rises and never falls after has risen over both calls
pub Rose-earlier : (a b c : ℕ) → a ≤ b → Rose a b → b ≤ c → Rose a c
Rose-earlier a b c le (inl h) up = inl (omega arith)
Rose-earlier a b c le (inr h) up = grind arith

-- a source gives nothing in no call
pub Takes-none : (left : Option (List ℕ)) → Takes left left []
Takes-none None = refl
Takes-none (Some rest) = refl

-- what a source gives in two calls is the bytes of the first and then those of the second
pub Takes-append : (a b c : Option (List ℕ)) (xs ys : List ℕ) → Takes a b xs → Takes b c ys → Takes a c (xs ++ ys)
Takes-append a b None xs ys e f = e ∙ ap (option_map (λ r. xs ++ r)) f
Takes-append a b (Some rest) xs ys e f =
    e ∙ ap (option_map (λ r. xs ++ r)) f ∙ ap Some (sym (append_assoc xs ys rest))

-- what a source gives up to its end is all that was left
pub Takes-all : (rest : List ℕ) (left : Option (List ℕ)) (bytes : List ℕ) → Takes (Some rest) left bytes → AtEnd left → bytes ≡ rest
Takes-all rest None bytes e h = cc
Takes-all rest (Some more) bytes e h =
    let done : more ≡ [] = h more refl in
    let all : rest ≡ bytes ++ more = cc in
    sym (append-nil bytes) ∙ ap (λ m. bytes ++ m) (sym done) ∙ sym all

-- after a read that gave 0 bytes none are left
pub AtEnd-zero : (a b : Option (List ℕ)) (n : ℕ) (xs : List ℕ) → n ≡ 0 → ZeroAtEnd a n → Takes a b (take n xs) → AtEnd b
AtEnd-zero a None n xs z h e rest here = cc
AtEnd-zero a (Some more) n xs z h e rest here =
    let whole : a ≡ Some more = rw z at e in
    let done : more ≡ [] = (h more whole).0 z in
    cc

-- a sink takes nothing in no call
pub Gains-none : (taken : Option (List ℕ)) → Gains taken taken []
Gains-none None = refl
Gains-none (Some xs) = ap Some (sym (append-nil xs))

-- what a sink takes in two calls is the bytes of the first and then those of the second
pub Gains-append : (a b c : Option (List ℕ)) (xs ys : List ℕ) → Gains a b xs → Gains b c ys → Gains a c (xs ++ ys)
Gains-append None b c xs ys e f = f ∙ ap (option_map (λ t. t ++ ys)) e
Gains-append (Some t) b c xs ys e f =
    f ∙ ap (option_map (λ t. t ++ ys)) e ∙ ap Some (append_assoc t xs ys)

-- no more bytes than a limit are some bytes
pub TakesAtMost-some : (limit : ℕ) (a b : Option (List ℕ)) → TakesAtMost limit a b → TakesSome a b
TakesAtMost-some limit a b h = (h.0, h.1)
