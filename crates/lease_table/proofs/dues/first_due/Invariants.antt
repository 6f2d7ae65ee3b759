use Rattle.std.specs.BinaryHeap.{heap_len}
use Rattle.lease_table.specs.Index.{IsSound, ListsEach, AllAhead}
use Rattle.lease_table.specs.Standing.{stands_in}
use Rattle.lease_table.proofs.dues.first_due.Given as goal

-- what stands is listed, and the deadlines of all terms that aren't found lie ahead
abbrev pub invariant-loop-found : goal.invariant-loop-found
invariant-loop-found l = record { sound : IsSound l.index; lists : ListsEach (stands_in l.leases) l.index; ahead : AllAhead l.now l.index }

abbrev pub decreases-loop-found : goal.decreases-loop-found
decreases-loop-found l = heap_len l.index.found
