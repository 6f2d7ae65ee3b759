use Rattle.std.proofs.Common.{sym, refl, ap, subst, ◌∙◌, Bool}
use Rattle.core_history.specs.Cores.{origin_of}
use Rattle.top_run.specs.Runs.{RoseWhere, is_read_fault, is_write_fault}
use Rattle.top_run.proofs.KeepLemmas.{whole_in}
use Rattle.top_run.proofs.RunLemmas.{ended_is, kept_at_end, room_at_end, other_end, no_read_end, write_end, faults_at_end}
use Rattle.top_run.proofs.runs.play_core.Goals as goal

pub ended_run-requires-clause-room : goal.ended_run-requires-clause-room
ended_run-requires-clause-room g c =
    room_at_end c.play_script-ended.result c.play_script-ended.new.core
    (origin_of c.args.script.shape c.args.core) c.args.script.acts _ _ c.play_script-ended.new.tally _
    c.play_script-ended.ensures.all c.play_script-ended.ensures.some c.requires.room

pub ended_run-requires-clause-whole : goal.ended_run-requires-clause-whole
ended_run-requires-clause-whole g c =
    let kept = kept_at_end c.play_script-ended.result c.play_script-ended.new.core
    (origin_of c.args.script.shape c.args.core) c.args.script.acts _ _ c.play_script-ended.new.tally
    c.play_script-ended.ensures.all c.play_script-ended.ensures.some in
    whole_in c.play_script-ended.new.core.shards c.args.script.shape _ kept.1.shards

pub returns-clause-ended : goal.returns-clause-ended
returns-clause-ended g c = λ unread read rows held is_read opened.
    rw (c.ended_run.ensures.status, c.ended_run.ensures.opening, c.ended_run.ensures.log, c.ended_run.ensures.histories, c.ended_run.ensures.written)
    (ended_is held c.args.core c.play_script-ended.new.core c.args.script.shape c.args.script.acts _ _
    (record {
      is_new = c.requires.new;
      sound = c.ended_run.ensures.sound;
      read = is_read;
      opened = opened;
      start = refl;
      rows = c.ended_run.ensures.rows;
      count = c.ended_run.ensures.faults;
    })
    c.play_script-ended.result c.play_script-ended.new.tally c.play_script-ended.ensures.all c.play_script-ended.ensures.some)

pub returns-clause-other : goal.returns-clause-other
returns-clause-other g c = λ is.
    other_end c.play_script-ended.result c.play_script-ended.new.tally.faulted (sym c.ended_run.ensures.status ∙ is)

pub returns-clause-no_read_fault : goal.returns-clause-no_read_fault
returns-clause-no_read_fault g c =
    ap is_read_fault c.ended_run.ensures.status ∙ no_read_end c.play_script-ended.result c.play_script-ended.new.tally.faulted

pub returns-clause-writes : goal.returns-clause-writes
returns-clause-writes g c =
    let is = ap is_write_fault c.ended_run.ensures.status ∙ write_end c.play_script-ended.result c.play_script-ended.new.tally.faulted in (
      subst (λ (b : Bool). RoseWhere g.W.Sink.faults b c.args.sink.now c.play_script-ended.new.sink) (sym is) c.play_script-ended.ensures.counts,
      c.play_script-ended.ensures.never_falls,
    )

pub returns-clause-keeper_never_falls : goal.returns-clause-keeper_never_falls
returns-clause-keeper_never_falls g c =
    rw c.ended_run.ensures.faults
    (faults_at_end c.play_script-ended.result c.play_script-ended.new.core (origin_of c.args.script.shape c.args.core)
    c.args.script.acts _ _ c.play_script-ended.new.tally c.play_script-ended.ensures.all c.play_script-ended.ensures.some)
