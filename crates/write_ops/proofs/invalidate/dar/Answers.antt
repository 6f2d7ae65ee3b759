use Rattle.std.proofs.Common.{None, refl}
use Rattle.key_shard.specs.declared.replies.How.TheVariants as hows
use Rattle.write_ops.proofs.ReleaseLemmas.{leaves-entry}
use Rattle.write_ops.proofs.invalidate.dar.Goals as goal

pub returns-clause-leaves : goal.returns-clause-leaves
returns-clause-leaves c out =
    leaves-entry c.args.shard.now c.release.new.self c.args.grant hows.Drop None c.release.result
    (λ quar. refl) (λ quar stands. refl) (c.release.ensures.out out) (c.release.ensures.shows out)
