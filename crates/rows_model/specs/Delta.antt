use Rattle.std.specs.Prelude.{ℕ, ℤ, pos, negsuc, ◌+ℤ◌, Bool, true, false, List, map, fold}
use Rattle.rows_model.specs.declared.keys.Kind.{Kind}
use Rattle.rows_model.specs.declared.keys.Kind.TheVariants.{Profile, Friends, Pending, NFriends, NPending, Blocked}
use Rattle.rows_model.specs.declared.keys.QKey.{QKey}
use Rattle.rows_model.specs.declared.changes.Change.{Change}
use Rattle.rows_model.specs.declared.refreshing.Circle.{Circle}
use Rattle.rows_model.specs.declared.refreshing.Circle.TheVariants.{Befriended, Inviting}
use Rattle.rows_model.specs.declared.refreshing.IdStep.{IdStep}
use Rattle.rows_model.specs.declared.refreshing.IdStep.TheVariants.{Stay, Put, Take}
use Rattle.rows_model.specs.Refresh.{step_in}

-- Whether keys of a kind are answered by a count.
abbrev pub is_counting : Kind → Bool
is_counting Profile = false
is_counting Friends = false
is_counting Pending = false
is_counting NFriends = true
is_counting NPending = true
is_counting Blocked = false

-- Whether the answer to a key is a count.
abbrev pub is_count : QKey → Bool
is_count key = is_counting key.kind

-- What a step in the ids of a circle adds to their count.
abbrev pub step_by : IdStep → ℤ
step_by Stay = pos 0
step_by (Put id) = pos 1
step_by (Take id) = negsuc 0

-- What changes add to the count of a circle: the sum of their steps.
abbrev pub sum_of : Circle → ℕ → List Change → ℤ
sum_of circle id changes = fold ◌+ℤ◌ (pos 0) (map (λ change. step_by (step_in circle id change)) changes)

-- What changes add to the answer of a key of this kind, where that is a count, and otherwise 0.
abbrev pub delta_by : Kind → ℕ → List Change → ℤ
delta_by Profile id changes = pos 0
delta_by Friends id changes = pos 0
delta_by Pending id changes = pos 0
delta_by NFriends id changes = sum_of Befriended id changes
delta_by NPending id changes = sum_of Inviting id changes
delta_by Blocked id changes = pos 0

-- What changes add to the answer to a key that is a count, and 0 for another key.
unfoldable pub delta_of : QKey → List Change → ℤ
delta_of key changes = delta_by key.kind key.id changes
