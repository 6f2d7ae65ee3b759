use Rattle.std.proofs.Common.{sym, subst, w32, to_z, of_z}
use Rattle.std.specs.Prelude.{pos}
use Rattle.lease_table.specs.declared.records.Mode.TheVariants as mode
use Rattle.key_shard.specs.Shards.{past_of}
use Rattle.session_client.specs.declared.replies.Wanted.{Wanted}
use Rattle.session_client.specs.Belongs.{Belongs}
use Rattle.callers.proofs.QuitLemmas.{asked-same, shown-answer, belongs-reg, belongs-read, belongs-delta}
use Rattle.callers.proofs.quits.give_up_on.Goals as goal

-- a quarantine to invalidate

pub returns-in-Some-clause-entries : goal.returns-in-Some-clause-entries
returns-in-Some-clause-entries c =
    asked-same c.qa_reg.result c.args.shard.now c.qa_reg.new.shard _ c.qa_reg.ensures.step c.qa_reg.ensures.shows c.qa_reg.ensures.err

pub returns-in-None-clause-entries : goal.returns-in-None-clause-entries
returns-in-None-clause-entries c =
    asked-same c.qa_reg.result c.args.shard.now c.qa_reg.new.shard _ c.qa_reg.ensures.step c.qa_reg.ensures.shows c.qa_reg.ensures.err

pub returns-in-Some-clause-belongs : goal.returns-in-Some-clause-belongs
returns-in-Some-clause-belongs c =
    subst (λ (request : Wanted). Belongs c.args.sid request c.in-Some.reply) (sym c.in-QaReg.is)
    (belongs-reg c.args.sid c.in-QaReg.key c.in-Some.reply
    (c.in-Some.ensures c.args.sid c.in-QaReg.key mode.Invalidate
    (shown-answer c.args.shard.now.terms (past_of c.args.shard.now) c.in-QaReg.key c.args.sid mode.Invalidate
    (pos 0) c.args.now c.qa_reg.result c.qa_reg.ensures.shows)))

-- one to refresh

pub returns-in-Some-told_of-clause-entries : goal.returns-in-Some-told_of-clause-entries
returns-in-Some-told_of-clause-entries c =
    asked-same c.qa_read.result c.args.shard.now c.qa_read.new.shard _ c.qa_read.ensures.step c.qa_read.ensures.shows c.qa_read.ensures.err

pub returns-in-None-told_of-clause-entries : goal.returns-in-None-told_of-clause-entries
returns-in-None-told_of-clause-entries c =
    asked-same c.qa_read.result c.args.shard.now c.qa_read.new.shard _ c.qa_read.ensures.step c.qa_read.ensures.shows c.qa_read.ensures.err

pub returns-in-Some-told_of-clause-belongs : goal.returns-in-Some-told_of-clause-belongs
returns-in-Some-told_of-clause-belongs c =
    subst (λ (request : Wanted). Belongs c.args.sid request c.in-Some-told_of.reply) (sym c.in-QaRead.is)
    (belongs-read c.args.sid c.in-QaRead.key c.in-Some-told_of.reply
    (c.in-Some-told_of.ensures c.args.sid c.in-QaRead.key mode.Refresh
    (shown-answer c.args.shard.now.terms (past_of c.args.shard.now) c.in-QaRead.key c.args.sid mode.Refresh
    (pos 0) c.args.now c.qa_read.result c.qa_read.ensures.shows)))

-- one to shift

pub returns-in-Some-told_of_delta-clause-entries : goal.returns-in-Some-told_of_delta-clause-entries
returns-in-Some-told_of_delta-clause-entries c =
    asked-same c.iq_delta.result c.args.shard.now c.iq_delta.new.shard _ c.iq_delta.ensures.step c.iq_delta.ensures.shows c.iq_delta.ensures.err

pub returns-in-None-told_of_delta-clause-entries : goal.returns-in-None-told_of_delta-clause-entries
returns-in-None-told_of_delta-clause-entries c =
    asked-same c.iq_delta.result c.args.shard.now c.iq_delta.new.shard _ c.iq_delta.ensures.step c.iq_delta.ensures.shows c.iq_delta.ensures.err

pub returns-in-Some-told_of_delta-clause-belongs : goal.returns-in-Some-told_of_delta-clause-belongs
returns-in-Some-told_of_delta-clause-belongs c =
    subst (λ (request : Wanted). Belongs c.args.sid request c.in-Some-told_of_delta.reply) (sym c.in-Delta.is)
    (belongs-delta c.args.sid c.in-Delta.key c.in-Delta.by c.in-Some-told_of_delta.reply
    (c.in-Some-told_of_delta.ensures c.args.sid c.in-Delta.key mode.Delta
    (shown-answer c.args.shard.now.terms (past_of c.args.shard.now) c.in-Delta.key c.args.sid mode.Delta
    (to_z w32 (of_z w32 c.in-Delta.by)) c.args.now c.iq_delta.result c.iq_delta.ensures.shows)))
