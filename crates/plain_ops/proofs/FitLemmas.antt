-- A plain map stays within its limits.
use Rattle.std.proofs.Common.{ℕ, ◌≡◌, ◌≤◌, true, List, length, arith, ⊎_elim}
use Rattle.std.specs.List.Sorted.{IsPermutation}
use Rattle.std.proofs.lemmas.Bool.Decides.{nat_tests}
use Rattle.std.proofs.lemmas.List.Sorted.{sum_by-IsPermutation, length_permutation}
use Rattle.mc_text.specs.declared.plain_replies.PlainReply.{PlainReply}
use Rattle.plain_ops.specs.declared.items.Item.{Item}
use Rattle.plain_ops.specs.Entries.{without, size_of, bytes_in, is_fit}
use Rattle.plain_ops.specs.Steps.{PlainMap, Effect, tells, drops, stores, IsStored, IsRefused, ComesOf}
use Rattle.plain_ops.proofs.EntryLemmas.{count_out, bytes_out}

fit_moved : (old new : List (List ℕ × Item)) → IsPermutation old new → is_fit old ≡ true → is_fit new ≡ true
fit_moved old new moved fit = rw (length_permutation old new moved, sum_by-IsPermutation size_of old new moved) fit

fit_without : (key : List ℕ) (entries : List (List ℕ × Item)) → is_fit entries ≡ true → is_fit (without entries key) ≡ true
fit_without key entries fit =
    let parts : (length entries ≤ 65536) × (bytes_in entries ≤ 268435456) = grind (arith, nat_tests, fit) in
    let few : length (without entries key) ≤ 65536 = let count = count_out key entries in omega (arith, parts.0) in
    let small : bytes_in (without entries key) ≤ 268435456 = let sum = bytes_out key entries in omega (arith, parts.1) in
    grind (arith, nat_tests, few, small)

pub effect_fits : (old new : PlainMap) (effect : Effect) (reply : PlainReply) → ComesOf old effect new reply → is_fit old.entries ≡ true → is_fit new.entries ≡ true
effect_fits old new (tells wanted) reply h fit = rw h.1 fit
effect_fits old new (drops key) reply h fit = fit_moved (without old.entries key) new.entries h.1 (fit_without key old.entries fit)
effect_fits old new (stores key flags value wanted) reply h fit =
    ⊎_elim (λ (s : IsStored old key flags value new × (reply ≡ wanted)). fit_moved _ new.entries s.0.entries s.0.fit)
    (λ (r : IsRefused old key flags value reply × (new ≡ old)). rw r.1 fit) h
