use Rattle.std.proofs.Common.{sym, subst}
use Rattle.session_client.specs.Belongs.{Belongs}
use Rattle.executor.specs.OnShard.{MakesOnShard}
use Rattle.executor.proofs.shards.on_shard.Goals as goal

pub returns-in-Sar-clause-makes : goal.returns-in-Sar-clause-makes
returns-in-Sar-clause-makes c =
    subst (λ request. MakesOnShard c.args.shard.now c.args.who request c.args.now c.put_or_drop.new.shard c.put_or_drop.result)
    (sym c.in-Sar.is) (c.put_or_drop.ensures.makes c.args.who c.args.now)

pub returns-in-Sar-clause-belongs : goal.returns-in-Sar-clause-belongs
returns-in-Sar-clause-belongs c =
    subst (λ request. Belongs c.args.who request c.put_or_drop.result) (sym c.in-Sar.is) (c.put_or_drop.ensures.belongs c.args.who)

pub returns-in-Raise-clause-belongs : goal.returns-in-Raise-clause-belongs
returns-in-Raise-clause-belongs c =
    subst (λ request. Belongs c.args.who request c.raise.result) (sym c.in-Raise.is) (c.raise.ensures.belongs c.args.who)
