-- What holds of each line that a door in memory has yet to give, before and after it gives the next.
use Rattle.std.proofs.Common.{◌≡◌, List, [], ◌∷◌, ◌++◌, reverse, ap, ◌∙◌, append-nil}
use Rattle.std.specs.Prelude.{Option, Some, None, All}
use Rattle.std.specs.Option.{option_to_list}
use Rattle.std.proofs.lemmas.List.{reverse-append}
use Rattle.std.proofs.lemmas.List.Elements.{All-head, All-tail}

-- the lines yet to give, kept with the next one last, are the one that is given and then the rest
lines-next : {L : Type 0} (all rest : List L) (answer : Option L) → all ≡ rest ++ option_to_list answer → reverse all ≡ option_to_list answer ++ reverse rest
lines-next all rest None e = ap reverse (e ∙ append-nil rest)
lines-next all rest (Some line) e = ap reverse e ∙ reverse-append rest (line ∷ [])

-- what holds of each line holds of the one that is given
pub All-next : {L : Type 0} (P : L → Type 0) (all rest : List L) (next : L) → all ≡ rest ++ next ∷ [] → All P (reverse all) → P next
All-next P all rest next e h = All-head P next (reverse rest) (rw (lines-next all rest (Some next) e) at h)

-- what holds of each line holds of the rest after one was given
pub All-after : {L : Type 0} (P : L → Type 0) (all rest : List L) (answer : Option L)
    → all ≡ rest ++ option_to_list answer → All P (reverse all) → All P (reverse rest)
All-after P all rest None e h = rw (lines-next all rest None e) at h
All-after P all rest (Some next) e h = All-tail P next (reverse rest) (rw (lines-next all rest (Some next) e) at h)
