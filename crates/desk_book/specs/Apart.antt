-- The grants of a commit that its session holds, and the others, which are set apart and put back.
use Rattle.std.specs.Prelude.{ℕ, ◌≤◌, ◌<◌, ◌+◌, Bool, List, [], ◌∷◌, length}
use Rattle.std.specs.List.{insert, list_any}
use Rattle.key_shard.specs.Permit.{Permit, same_permit}
use Rattle.session_client.specs.Belongs.{AreBack}
use Rattle.session_client.specs.Grants.{GrantsView}
use Rattle.desk_book.specs.Books.{Book}
use Rattle.desk_book.specs.declared.apart.Other.{Other}

-- Whether the session holds this grant.
abbrev pub is_held : Book → Permit → Bool
is_held book grant = list_any (λ one. same_permit one.permit grant) book.held

-- The grants with the others put back, the one that was set apart last first: each at the place where it stood.
abbrev pub put_back : List Other → List Permit → List Permit
put_back [] grants = grants
put_back (other ∷ others) grants = insert (put_back others grants) other.place other.grant

-- Each of the others has its place among so many grants, for all of which there is room.
abbrev pub HavePlaces : List Other → ℕ → ℕ → Type 0
HavePlaces [] count room = Unit {0}
HavePlaces (other ∷ others) count room =
    (other.place ≤ count + length others) × (count + length others < room) × HavePlaces others count room

-- The grants are those from which the others were set apart, with no less room.
abbrev pub AreLeft : List Other → GrantsView → Type 0
AreLeft others grants = (left : GrantsView) × AreBack left grants × HavePlaces others (length left.items) left.room
