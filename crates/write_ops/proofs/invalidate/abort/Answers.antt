use Rattle.std.proofs.Common.{refl}
use Rattle.key_shard.specs.declared.replies.How.TheVariants as hows
use Rattle.key_shard.specs.Past.{entry}
use Rattle.key_shard.specs.Shards.{past_of}
use Rattle.write_ops.proofs.ReleaseLemmas.{leaves-entry}
use Rattle.write_ops.proofs.invalidate.abort.Goals as goal

pub returns-clause-leaves : goal.returns-clause-leaves
returns-clause-leaves c out =
    leaves-entry c.args.shard.now c.release.new.self c.args.grant hows.Keep (entry c.args.grant.key (past_of c.args.shard.now)) c.release.result
    (λ quar. refl) (λ quar stands. refl) (c.release.ensures.out out) (c.release.ensures.shows out)
