-- Fit rows stay fit under changes that apply.
use Rattle.std.proofs.Common.{ℕ, ◌+◌, ◌≡◌, Bool, true, false, List, [], ◌∷◌, All, Ok, Err, refl, subst}
use Rattle.std.specs.Prelude.{if◌then◌else◌}
use Rattle.std.proofs.lemmas.List.Elements.{All-head, All-tail}
use Rattle.rows_model.specs.declared.changes.Change.{Change}
use Rattle.rows_model.specs.declared.changes.Change.TheVariants.{Invite, Accept, Reject, Thaw, Rename, Block}
use Rattle.rows_model.specs.Rows.{Tables, Fit}
use Rattle.rows_model.specs.Changes.{HasIds, applies, changed, apply_from, apply_all}
use Rattle.rows_model.specs.RowsStayFit.{RowsStayFit}
use Rattle.rows_model.proofs.FitLemmas.{Fit-invited, Fit-accepted, Fit-without_link, Fit-renamed, Fit-blocked}

-- after a change that applies
pub Fit-changed : (change : Change) (t : Tables) → Fit t → HasIds change → applies change t ≡ true → Fit (changed change t)
Fit-changed (Invite a b) t fit ids e = Fit-invited t.members t.links t.blocks a b fit e
Fit-changed (Accept a b) t fit ids e = Fit-accepted t.members t.links t.blocks a b fit e
Fit-changed (Reject a b) t fit ids e = Fit-without_link t.members t.links t.blocks a b fit
Fit-changed (Thaw a b) t fit ids e = Fit-without_link t.members t.links t.blocks a b fit
Fit-changed (Rename a name) t fit ids e = Fit-renamed t.members t.links t.blocks a name fit ids.1
Fit-changed (Block a b) t fit ids e = Fit-blocked t.members t.links t.blocks a b fit e

fit_go : (place : ℕ) (change : Change) (changes : List Change) (t after : Tables) (b : Bool) → applies change t ≡ b → Fit t → HasIds change
    → (if b then apply_from (place + 1) changes (changed change t) else Err place) ≡ Ok after
    → (Fit (changed change t) → apply_from (place + 1) changes (changed change t) ≡ Ok after → Fit after) → Fit after
fit_go place change changes t after true takes fit ids e rest = rest (Fit-changed change t fit ids takes) e
fit_go place change changes t after false takes fit ids e rest = absurd cc

pub fit_from : (place : ℕ) (changes : List Change) (t after : Tables) → Fit t → All HasIds changes → apply_from place changes t ≡ Ok after → Fit after
fit_from place [] t after fit ids e =
    let same : t ≡ after = cc in subst Fit same fit
fit_from place (change ∷ changes) t after fit ids e =
    fit_go place change changes t after (applies change t) refl fit
    (All-head HasIds change changes ids) e (λ kept made. fit_from (place + 1) changes (changed change t) after kept (All-tail HasIds change changes ids) made)

-- after changes in turn, all of which apply
pub Fit-apply_all : (changes : List Change) (tables after : Tables) → Fit tables → All HasIds changes → apply_all changes tables ≡ Ok after → Fit after
unfolding apply_all
Fit-apply_all changes tables after fit ids e = fit_from 0 changes tables after fit ids e

pub rows_stay : RowsStayFit
rows_stay = Fit-apply_all
