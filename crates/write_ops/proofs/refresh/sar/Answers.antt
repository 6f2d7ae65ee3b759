use Rattle.std.proofs.Common.{None, refl, sym, subst}
use Rattle.key_shard.specs.declared.replies.How.TheVariants as hows
use Rattle.key_shard.specs.Shards.{past_of}
use Rattle.write_ops.specs.Releases.{LeavesNew}
use Rattle.write_ops.proofs.ReleaseLemmas.{leaves-entry, leaves-new}
use Rattle.write_ops.proofs.refresh.sar.Goals as goal

pub returns-in-Some-clause-leaves : goal.returns-in-Some-clause-leaves
returns-in-Some-clause-leaves c out =
    leaves-new c.args.shard.now c.replace.new.self c.args.grant c.args.value c.in-Some.value c.args.stamp c.replace.result c.in-Some.is
    (c.replace.ensures.out out) (c.replace.ensures.shows out)

pub returns-in-None-clause-leaves : goal.returns-in-None-clause-leaves
returns-in-None-clause-leaves c out =
    subst (λ o. LeavesNew o c.args.stamp c.args.grant (past_of c.args.shard.now) (past_of c.release.new.self) c.release.result) (sym c.in-None.is)
    (leaves-entry c.args.shard.now c.release.new.self c.args.grant hows.Drop None c.release.result
    (λ quar. refl) (λ quar stands. refl) (c.release.ensures.out out) (c.release.ensures.shows out))
