-- The marks of a key are told by the steps in short.
use Rattle.std.proofs.Common.{ℕ, ◌≡◌, Bool, cond, List, [], ◌∷◌, ◌++◌, refl, sym, ap, ap₂, ◌∙◌}
use Rattle.rows_model.specs.declared.keys.QKey.{QKey}
use Rattle.rows_model.specs.Key.{same_key}
use Rattle.key_shard.specs.declared.steps.Ended as ends
use Rattle.key_shard.specs.declared.steps.Ended.TheVariants as ended
use Rattle.key_shard.specs.declared.steps.Step.{Step}
use Rattle.key_shard.specs.declared.steps.Step.TheVariants as step
use Rattle.log_word.specs.declared.events.Short.{Short}
use Rattle.log_word.specs.declared.events.ShortKind.{ShortKind}
use Rattle.log_word.specs.declared.events.ShortKind.TheVariants as kinds
use Rattle.key_freshness.specs.Marks.{Mark, Granted, Ended, Leased, Wrote, writes_by, marks_in, marks_of}
use Rattle.bound_hub.specs.Shorts.{kind_of_end, stamp_of_end, short_of, shorts_of}

-- the marks of a step of this kind
abbrev marks_by_kind : ShortKind → ℕ → ℕ → ℕ → List Mark
marks_by_kind kinds.Lease who token stamp = Leased token ∷ []
marks_by_kind kinds.Stored who token stamp = Wrote stamp ∷ []
marks_by_kind kinds.Granted who token stamp = Granted who token ∷ []
marks_by_kind kinds.Kept who token stamp = Ended who token ∷ []
marks_by_kind kinds.Dropped who token stamp = Ended who token ∷ []
marks_by_kind kinds.Put who token stamp = Wrote stamp ∷ Ended who token ∷ []
marks_by_kind kinds.Shifted who token stamp = Wrote stamp ∷ Ended who token ∷ []
marks_by_kind other who token stamp = []

abbrev marks_seen : QKey → List Short → List Mark
marks_seen key [] = []
marks_seen key (x ∷ xs) = cond (same_key key x.key) (marks_by_kind x.kind x.sid.number x.token x.stamp) [] ++ marks_seen key xs

by_end : (how : ends.Ended) (who token : ℕ) → writes_by how ++ Ended who token ∷ [] ≡ marks_by_kind (kind_of_end how) who token (stamp_of_end how)
by_end ended.Keep who token = refl
by_end ended.Drop who token = refl
by_end (ended.Put value stamp evicted) who token = refl
by_end (ended.Shift by stamp) who token = refl

by_step : (key : QKey) (s : Step) (has : Bool)
    → marks_in key s ≡ cond (same_key key (short_of s has).key) (marks_by_kind (short_of s has).kind (short_of s has).sid.number (short_of s has).token (short_of s has).stamp) []
by_step key (step.Released on sid token how) has = ap (λ ms. cond (same_key key on) ms []) (by_end how sid.number token)
by_step key other has = refl

marks_are_seen : (key : QKey) (before more : List Step) → marks_of key more ≡ marks_seen key (shorts_of before more)
marks_are_seen key before [] = refl
marks_are_seen key before (s ∷ more) = ap₂ (λ x y. x ++ y) (by_step key s _) (marks_are_seen key before more)

-- two lists of steps that are one in short leave the same marks
pub same_marks : (key : QKey) (before one other : List Step) → shorts_of before one ≡ shorts_of before other → marks_of key one ≡ marks_of key other
same_marks key before one other same = marks_are_seen key before one ∙ ap (marks_seen key) same ∙ sym (marks_are_seen key before other)
