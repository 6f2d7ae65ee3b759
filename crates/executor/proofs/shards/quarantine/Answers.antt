use Rattle.lease_table.specs.declared.records.Mode.TheVariants.{Invalidate}
use Rattle.key_shard.specs.Shards.{past_of}
use Rattle.session_client.proofs.QuarantineLemmas.{quarantine_belongs}
use Rattle.executor.proofs.shards.quarantine.Goals as goal

pub returns-in-Ok-clause-belongs : goal.returns-in-Ok-clause-belongs
returns-in-Ok-clause-belongs c =
    quarantine_belongs c.args.shard.now.terms (past_of c.args.shard.now) c.args.key c.args.who Invalidate _ _ c.in-Ok.answer c.in-Ok.ensures.shows
