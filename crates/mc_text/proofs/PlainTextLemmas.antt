-- Items that are written behind one another.
use Rattle.std.proofs.Common.{ℕ, ◌+◌, ◌≡◌, ◌<◌, Bool, List, [], ◌∷◌, ◌++◌, length, take, get_or, take-suc, add-one, append_assoc, append-nil, sym, ap, ◌∙◌}
use Rattle.std.specs.List.{flat_map}
use Rattle.std.proofs.lemmas.Grind.{flat_map-append}
use Rattle.mc_text.specs.Replies.{BeginsWith}
use Rattle.mc_text.specs.PlainReplies.{item_text}
use Rattle.mc_text.specs.declared.plain_replies.Found.{Found}

-- the text of an item more
text_more : (is_told : Bool) (found : List Found) (item : Found)
    → flat_map (item_text is_told) (found ++ item ∷ []) ≡ flat_map (item_text is_told) found ++ item_text is_told item
text_more is_told found item =
    flat_map-append (item_text is_told) found (item ∷ [])
    ∙ ap (λ (text : List ℕ). flat_map (item_text is_told) found ++ text) (append-nil (item_text is_told item))

pub items_next : (is_told : Bool) (found : List Found) (i : ℕ) (item : Found) (start old new : List ℕ) → i < length found → item ≡ get_or found i item
    → old ≡ start ++ flat_map (item_text is_told) (take i found) → new ≡ old ++ item_text is_told item
    → new ≡ start ++ flat_map (item_text is_told) (take (i + 1) found)
items_next is_told found i item start old new below is was grown =
    let one : take (i + 1) found ≡ take i found ++ item ∷ [] =
    ap (λ (n : ℕ). take n found) (add-one i) ∙ take-suc found i item below ∙ ap (λ (f : Found). take i found ++ f ∷ []) (sym is) in
    rw (one, text_more is_told (take i found) item)
    (grown ∙ ap (λ (text : List ℕ). text ++ item_text is_told item) was ∙ append_assoc start (flat_map (item_text is_told) (take i found)) (item_text is_told item))

-- what begins with more begins with less
pub begins_on : (start middle old new : List ℕ) → old ≡ start ++ middle → BeginsWith old new → BeginsWith start new
begins_on start middle old new e h =
    record { part = middle ++ h.part; behind = h.behind ∙ ap (λ (text : List ℕ). text ++ h.part) e ∙ append_assoc start middle h.part }
