use Rattle.executor.proofs.RefusalLemmas.{raise_answered}
use Rattle.executor.proofs.shards.raise.Goals as goal

pub returns-in-Ok-clause-belongs : goal.returns-in-Ok-clause-belongs
returns-in-Ok-clause-belongs c = λ who.
    raise_answered c.args.shard.now c.args.grant _ c.in-Ok.answer c.in-Ok.ensures.shows (λ e. let gone = (c.in-Ok.ensures.unknown e).1 in cc)
