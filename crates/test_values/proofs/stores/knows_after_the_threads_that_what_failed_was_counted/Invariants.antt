use Rattle.std.proofs.Common.{Some}
use Rattle.test_values.proofs.stores.knows_after_the_threads_that_what_failed_was_counted.Given as goal

-- the keeper's count before the start
abbrev pub ghosts-asked_by_two : goal.ghosts-asked_by_two
ghosts-asked_by_two g a = record { count = Some a.keeper.faults }
