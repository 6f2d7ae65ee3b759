use Rattle.std.proofs.Common.{ap, ◌∙◌}
use Rattle.key_shard.specs.Past.{quar_of}
use Rattle.key_shard.specs.Kept.{shown}
use Rattle.key_shard.specs.Shards.{ShardView, past_of}
use Rattle.key_shard.proofs.SweepLemmas.{swept-gone}
use Rattle.key_shard.proofs.shards.Shard.sweep_drop.Goals as goal

pub returns-clause-ended : goal.returns-clause-ended
returns-clause-ended c =
    ap (λ (s : ShardView). quar_of c.args.key c.args.token (past_of s)) c.sweep_drop.ensures.step
    ∙ swept-gone (shown c.self.inside.body) c.args.key c.args.token
