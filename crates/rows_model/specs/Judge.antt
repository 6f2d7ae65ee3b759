-- Whether a change applies after others, told by the rows before them.
use Rattle.std.specs.Prelude.{ℕ, Bool, true, false, ◌==◌, ◌&&◌, ◌||◌, not}
use Rattle.rows_model.specs.declared.rows.Link.{Link}
use Rattle.rows_model.specs.declared.judging.Bond.{Bond}
use Rattle.rows_model.specs.declared.judging.Bond.TheVariants.{Any, Invitation, Friendship}
use Rattle.rows_model.specs.declared.changes.Change.{Change}
use Rattle.rows_model.specs.declared.changes.Change.TheVariants.{Invite, Accept, Reject, Thaw, Rename, Block}
use Rattle.rows_model.specs.Rows.{joins, is_pending, is_friend}
use Rattle.rows_model.specs.Changes.{invitation, friendship}

-- whether a link is such a bond of the two
abbrev pub bonds : Bond → ℕ → ℕ → Link → Bool
bonds Any a b link = joins a b link
bonds Invitation a b link = is_pending link.state && (link.a == a) && (link.b == b)
bonds Friendship a b link = is_friend link.state && joins a b link

-- whether such a bond of the two stands after a change, where it stood or didn't before
abbrev pub still_bonds : Bond → ℕ → ℕ → Bool → Change → Bool
still_bonds bond a b stood (Invite c d) = stood || bonds bond a b (invitation c d)
still_bonds bond a b stood (Accept c d) = (not (joins a b (invitation c d)) && stood) || bonds bond a b (friendship c d)
still_bonds bond a b stood (Reject c d) = not (joins a b (invitation c d)) && stood
still_bonds bond a b stood (Thaw c d) = not (joins a b (invitation c d)) && stood
still_bonds bond a b stood (Rename c name) = stood
still_bonds bond a b stood (Block c d) = stood

-- whether a change makes the links one more
abbrev pub adds : Change → Bool
adds (Invite a b) = true
adds (Accept a b) = false
adds (Reject a b) = false
adds (Thaw a b) = false
adds (Rename a name) = false
adds (Block a b) = false

-- whether a change makes the links one less
abbrev pub ends : Change → Bool
ends (Invite a b) = false
ends (Accept a b) = false
ends (Reject a b) = true
ends (Thaw a b) = true
ends (Rename a name) = false
ends (Block a b) = false

-- whether a change is the block of one member by another
abbrev pub is_block_of : ℕ → ℕ → Change → Bool
is_block_of a b (Invite c d) = false
is_block_of a b (Accept c d) = false
is_block_of a b (Reject c d) = false
is_block_of a b (Thaw c d) = false
is_block_of a b (Rename c name) = false
is_block_of a b (Block c d) = (c == a) && (d == b)

-- whether a change makes the blocks one more
abbrev pub adds_block : Change → Bool
adds_block (Invite a b) = false
adds_block (Accept a b) = false
adds_block (Reject a b) = false
adds_block (Thaw a b) = false
adds_block (Rename a name) = false
adds_block (Block a b) = true
