use Rattle.std.proofs.Common.{subst, w32}
use Rattle.std.proofs.lemmas.Int.{to_z-of_z}
use Rattle.lease_table.specs.declared.records.Mode.TheVariants.{Delta}
use Rattle.key_shard.specs.Shards.{past_of}
use Rattle.session_client.specs.declared.replies.Reply.TheVariants as Reply
use Rattle.session_client.proofs.QuarantineLemmas.{quarantine_belongs}
use Rattle.write_ops.specs.Releases.{delta_step}
use Rattle.executor.specs.OnShard.{TellsQuarantine}
use Rattle.executor.proofs.RefusalLemmas.{tells_quarantine}
use Rattle.executor.proofs.shards.quarantine_to_shift.Goals as goal

pub returns-in-Ok-clause-makes : goal.returns-in-Ok-clause-makes
returns-in-Ok-clause-makes c =
    let old = c.args.shard.now in
    let answer = c.in-Ok.answer in
    subst (λ by. TellsQuarantine old (delta_step old c.args.key c.args.who by c.args.now) c.delta_on.new.shard (Reply.Quar answer))
    (to_z-of_z w32 c.args.by c.ranges.by)
    (tells_quarantine old c.delta_on.new.shard c.args.key _ answer c.requires.home c.in-Ok.ensures.refusal c.in-Ok.ensures.step c.in-Ok.ensures.shows)

pub returns-in-Ok-clause-belongs : goal.returns-in-Ok-clause-belongs
returns-in-Ok-clause-belongs c =
    quarantine_belongs c.args.shard.now.terms (past_of c.args.shard.now) c.args.key c.args.who Delta _ _ c.in-Ok.answer c.in-Ok.ensures.shows
