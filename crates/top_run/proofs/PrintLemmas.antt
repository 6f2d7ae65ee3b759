-- What was printed, and how it is counted.
use Rattle.std.proofs.Common.{ℕ, ◌≡◌, ◌+◌, ◌-◌, ◌*◌, ◌^◌, ◌<◌, ◌≤◌, min, List, [], ◌∷◌, ◌++◌, length, take, drop, decimal, arith, refl, sym}
use Rattle.std.proofs.Common.{ap, ◌∙◌, append_assoc, append-nil, take-append-drop, reverse, flat_map}
use Rattle.std.specs.Prelude.{Bool, Option, Some, codes, cond, count_by, slice_get}
use Rattle.std.proofs.lemmas.List.{length-append, length-take-le, reverse-append, take_more}
use Rattle.std.proofs.lemmas.List.Sums.{sum_by-append}
use Rattle.std.proofs.lemmas.Option.{get_or_from_slice_get, slice_get_within}
use Rattle.std.proofs.lemmas.List.Concat.{flat_map-append}
use Rattle.iq_outside.specs.Outside.{Gains}
use Rattle.iq_outside.proofs.OutsideLemmas.{Gains-append, Gains-none}
use Rattle.key_shard.specs.declared.steps.Step.{Step}
use Rattle.sql_keeper.specs.declared.stores.Commit.{Commit}
use Rattle.core_history.specs.Events.{Event}
use Rattle.core_history.specs.Lines.{line_of, lines_of, end_line, count_in, is_hit, is_stored, is_again}
use Rattle.top_run.specs.Runs.{Prints}

-- a count that stands still at its end stands there whatever is added in two steps
min_more : (a n m : ℕ) → min (min a m + n) m ≡ min (a + n) m
min_more a n m = grind arith

-- nothing was printed so far
pub print_none : (taken : Option (List ℕ)) → Prints taken taken [] 0
print_none taken = record { gains = Gains-none taken; counted = refl }

-- so much more was printed
pub print_more : (taken old new : Option (List ℕ)) (printed bytes : List ℕ) (w w' : ℕ)
    → Prints taken old printed w → Gains old new bytes → w' ≡ min (w + length bytes) (2 ^ 64 - 1) → Prints taken new (printed ++ bytes) w'
print_more taken old new printed bytes w w' h gains counted =
    record {
      gains = Gains-append taken old new printed bytes h.gains gains;
      counted = counted
          ∙ ap (λ (n : ℕ). min (n + length bytes) (2 ^ 64 - 1)) h.counted
          ∙ min_more (length printed) (length bytes) (2 ^ 64 - 1)
          ∙ ap (λ (n : ℕ). min n (2 ^ 64 - 1)) (sym (length-append printed bytes));
    }

-- the first bytes were printed
pub print_some : (taken old new : Option (List ℕ)) (printed bytes : List ℕ) (n w w' : ℕ)
    → Prints taken old printed w → Gains old new (take n bytes) → n < length bytes → w' ≡ min (w + n) (2 ^ 64 - 1)
    → (front : List ℕ) × (rest : List ℕ) × (front ++ rest ≡ bytes) × Prints taken new (printed ++ front) w'
print_some taken old new printed bytes n w w' h gains fewer counted =
    let low : n ≤ length bytes = omega arith in
    let len : length (take n bytes) ≡ n = length-take-le n bytes low in (
      take n bytes,
      drop n bytes,
      take-append-drop n bytes,
      print_more taken old new printed (take n bytes) w w' h gains (counted ∙ ap (λ (k : ℕ). min (w + k) (2 ^ 64 - 1)) (sym len)),
    )

-- the lines of a past with one event more
pub lines_more : (event : Event) (past : List Event) → lines_of (event ∷ past) ≡ lines_of past ++ line_of event
unfolding lines_of
lines_more event past =
    ap (flat_map line_of) (reverse-append (event ∷ []) past)
    ∙ flat_map-append line_of (reverse past) (event ∷ [])
    ∙ ap (λ (bytes : List ℕ). flat_map line_of (reverse past) ++ bytes) (append-nil (line_of event))

pub lines_none : lines_of [] ≡ []
unfolding lines_of
lines_none = refl

-- one history more is counted
count_more : (test : Step → Bool) (histories : List (List Step)) (i : ℕ) (history : List Step) → slice_get histories i ≡ Some history
    → count_in test (take (i + 1) histories) ≡ count_in test (take i histories) + count_by test history
count_more test histories i history is =
    let below = slice_get_within histories i history is in
    let here : take (i + 1) histories ≡ take i histories ++ history ∷ [] =
    take_more histories i [] below ∙ ap (λ (h : List Step). take i histories ++ h ∷ []) (get_or_from_slice_get histories i history [] is) in
    ap (count_in test) here
    ∙ ap (count_by test) (flat_map-append (λ (h : List Step). h) (take i histories) (history ∷ [])
    ∙ ap (λ (h : List Step). flat_map (λ (x : List Step). x) (take i histories) ++ h) (append-nil history))
    ∙ sum_by-append (λ step. cond (test step) 1 0) (flat_map (λ (x : List Step). x) (take i histories)) history

pub counted_more : (test : Step → Bool) (histories : List (List Step)) (i : ℕ) (history : List Step) (a n : ℕ) → slice_get histories i ≡ Some history
    → a ≡ count_in test (take i histories) → n ≡ count_by test history → a + n ≡ count_in test (take (i + 1) histories)
counted_more test histories i history a n is before here =
    ap (λ (m : ℕ). m + n) before ∙ ap (λ (m : ℕ). count_in test (take i histories) + m) here ∙ sym (count_more test histories i history is)

pub bound_more : (a n i : ℕ) → a ≤ i * 18446744073709551615 → n < 18446744073709551616 → a + n ≤ (i + 1) * 18446744073709551615
bound_more a n i below small = omega arith

regroup : (a b c d e f g h t : List ℕ) → (((((((a ++ b) ++ c) ++ d) ++ e) ++ f) ++ g) ++ h) ++ t ≡ (a ++ (b ++ (c ++ (d ++ (e ++ (f ++ (g ++ h))))))) ++ t
regroup a b c d e f g h t = simp append_assoc

-- the last line, word by word
pub end_line_is : (log : List Commit) (histories : List (List Step))
    → end_line log histories
    ≡ (((((((codes "end commits " ++ decimal (length log)) ++ codes " hits ") ++ decimal (count_in is_hit histories)) ++ codes " stores ")
    ++ decimal (count_in is_stored histories)) ++ codes " agains ") ++ decimal (count_in is_again histories)) ++ 10 ∷ []
unfolding end_line
end_line_is log histories =
    sym (regroup (codes "end commits ") (decimal (length log)) (codes " hits ") (decimal (count_in is_hit histories))
    (codes " stores ") (decimal (count_in is_stored histories)) (codes " agains ") (decimal (count_in is_again histories)) (10 ∷ []))
