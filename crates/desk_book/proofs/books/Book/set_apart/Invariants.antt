use Rattle.std.proofs.Common.{◌≤◌, ◌-◌, length, vec_capacity}
use Rattle.desk_book.specs.Apart.{is_held}
use Rattle.desk_book.proofs.ApartLemmas.{IsSetApart}
use Rattle.desk_book.proofs.books.Book.set_apart.Given as goal

abbrev pub invariant-loop-place : goal.invariant-loop-place
invariant-loop-place l =
    IsSetApart (is_held l.self.book) l.fn.grants l.held l.others.items l.place × (length l.fn.grants.items ≤ vec_capacity l.others)

abbrev pub decreases-loop-place : goal.decreases-loop-place
decreases-loop-place l = length l.held.items - l.place
