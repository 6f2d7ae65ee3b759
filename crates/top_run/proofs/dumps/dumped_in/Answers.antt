use Rattle.std.proofs.Common.{Err, subst}
use Rattle.shard_dump.specs.declared.faults.DumpFault.{DumpFault}
use Rattle.shard_dump.specs.Faults.{Gives}
use Rattle.top_run.proofs.dumps.dumped_in.Goals as goal

pub returns-in-Ok-clause-only : goal.returns-in-Ok-clause-only
returns-in-Ok-clause-only c = λ dump is. c.in-Ok.ensures.only dump is

pub unreachable-requires : goal.unreachable-requires
unreachable-requires c =
    let some = c.requires in
    subst (λ (fault : DumpFault). Gives (Err fault) some.0) c.in-Err-Bad.field-0-is (c.in-Err-Bad.ensures.only some.0 some.1)
