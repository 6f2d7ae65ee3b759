use Rattle.std.proofs.Common.{arith, ap, []}
use Rattle.entry_table.proofs.KeptLemmas.{shown_all-nil, table_of}
use Rattle.entry_table.proofs.table.Entries.new.Goals as goal

pub invariant_of-result : goal.invariant_of-result
invariant_of-result c =
    rw (c.in_ok-sparse.ensures, shown_all-nil) (record { roomy = omega (arith, c.unwrap-room.result.ok); within = omega arith; distinct = tt })

pub returns : goal.returns
returns c =
    let room = rw c.unwrap-room.ensures at c.new.ensures in
    rw (c.in_ok-sparse.ensures, shown_all-nil) (ap (λ n. table_of n []) room)
