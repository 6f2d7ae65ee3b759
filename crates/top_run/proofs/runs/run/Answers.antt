use Rattle.std.proofs.Common.{Bool, ap, refl, sym, subst}
use Rattle.run_words.specs.declared.words.Words.TheVariants as words
use Rattle.run_words.specs.declared.words.WordsFault.TheVariants as fault
use Rattle.top_run.specs.declared.runs.Status.{Status}
use Rattle.top_run.specs.Commands.{IsTextPart}
use Rattle.door_workers.specs.Attending.{seen_at}
use Rattle.top_run.specs.Begins.{files_seen}
use Rattle.top_run.specs.Runs.{told_by, RoseWhere}
use Rattle.top_run.proofs.PrintLemmas.{print_none}
use Rattle.top_run.proofs.CommandLemmas.{command_ok, command_err, lines_ok, lines_err, load_not_failed, load_no_door, load_no_file, load_no_replay, no_command, server_not_failed, server_no_replay, earlier_ok, earlier_err, replay_no_file, saved_ok, saved_err, text_no_file, warm_not_failed, warm_no_file, warm_no_door, warm_no_replay}
use Rattle.top_run.proofs.SaveLemmas.{is_done}
use Rattle.top_run.proofs.ServeLemmas.{none_ended}
use Rattle.top_run.proofs.runs.run.Goals as goal

pub returns-in-Ok-Replay-clause-ended : goal.returns-in-Ok-Replay-clause-ended
returns-in-Ok-Replay-clause-ended g c =
    command_ok _ c.read_words.result _ _ c.read_words.ensures.accepts c.read_words.ensures.read c.read_words.ensures.usage
    c.in-Ok-Replay.field-0 (words.Replay c.in-Ok-Replay.place) c.in-Ok-Replay.is c.in-Ok-Replay.field-0-is
    (c.replay.ensures.ended, record { no_ends = c.replay.ensures.no_ends; door = refl })

pub returns-in-Ok-Work-clause-ended : goal.returns-in-Ok-Work-clause-ended
returns-in-Ok-Work-clause-ended g c =
    command_ok _ c.read_words.result _ _ c.read_words.ensures.accepts c.read_words.ensures.read c.read_words.ensures.usage
    c.in-Ok-Work.field-0 (words.Work c.in-Ok-Work.place c.in-Ok-Work.spec) c.in-Ok-Work.is c.in-Ok-Work.field-0-is (
      record { left = refl; count = refl },
      c.work.ensures.ended (told_by g.S.Source c.args.source.now),
      record { no_ends = c.work.ensures.no_ends; door = refl },
    )

pub returns-in-Ok-Work-clause-doors : goal.returns-in-Ok-Work-clause-doors
returns-in-Ok-Work-clause-doors g c =
    subst (λ (b : Bool). RoseWhere g.D.Door.faults b c.args.door.now c.args.door.now)
    (sym (load_no_door c.work.result.status c.in-Ok-Work.spec _ _ _ _ c.work.result.written
    (c.work.ensures.ended (told_by g.S.Source c.args.source.now)))) refl

pub returns-in-Ok-Work-clause-faultless : goal.returns-in-Ok-Work-clause-faultless
returns-in-Ok-Work-clause-faultless g c =
    load_not_failed c.work.result.status c.in-Ok-Work.spec _ _ _ _ c.work.result.written
    (c.work.ensures.ended (told_by g.S.Source c.args.source.now))

pub returns-in-Ok-Work-clause-done : goal.returns-in-Ok-Work-clause-done
returns-in-Ok-Work-clause-done g c = λ place are done.
    absurd (load_no_replay _ c.read_words.result c.in-Ok-Work.field-0 c.in-Ok-Work.place c.in-Ok-Work.spec c.read_words.ensures.accepts
    c.in-Ok-Work.is c.in-Ok-Work.field-0-is place are)

pub returns-in-Ok-Serve-clause-ended : goal.returns-in-Ok-Serve-clause-ended
returns-in-Ok-Serve-clause-ended g c =
    command_ok _ c.read_words.result _ _ c.read_words.ensures.accepts c.read_words.ensures.read c.read_words.ensures.usage
    c.in-Ok-Serve.field-0 (words.Serve c.in-Ok-Serve.place c.in-Ok-Serve.spec) c.in-Ok-Serve.is c.in-Ok-Serve.field-0-is (
      record { left = refl; count = refl },
      c.serve.ensures.ended (told_by g.S.Source c.args.source.now),
    )

pub returns-in-Ok-Serve-clause-faultless : goal.returns-in-Ok-Serve-clause-faultless
returns-in-Ok-Serve-clause-faultless g c =
    server_not_failed c.serve.result.status c.in-Ok-Serve.spec _
    (c.serve.ensures.ended (told_by g.S.Source c.args.source.now))

pub returns-in-Ok-Serve-clause-done : goal.returns-in-Ok-Serve-clause-done
returns-in-Ok-Serve-clause-done g c = λ place are done.
    absurd (server_no_replay _ c.read_words.result c.in-Ok-Serve.field-0 c.in-Ok-Serve.place c.in-Ok-Serve.spec c.read_words.ensures.accepts
    c.in-Ok-Serve.is c.in-Ok-Serve.field-0-is place are)

pub returns-in-Ok-Page-clause-ended : goal.returns-in-Ok-Page-clause-ended
returns-in-Ok-Page-clause-ended g c =
    command_ok _ c.read_words.result _ _ c.read_words.ensures.accepts c.read_words.ensures.read c.read_words.ensures.usage
    c.in-Ok-Page.field-0 (words.Page c.in-Ok-Page.text) c.in-Ok-Page.is c.in-Ok-Page.field-0-is (λ place. (
      record { left = refl; count = refl },
      rw c.as_slice.ensures.value at
          (c.tell.ensures.told (told_by g.S.Source c.args.source.now)),
      record { no_ends = c.tell.ensures.no_ends; door = refl },
    ))

pub returns-in-Ok-Page-clause-usage : goal.returns-in-Ok-Page-clause-usage
returns-in-Ok-Page-clause-usage g c = λ is.
    let made = c.tell.ensures.told (told_by g.S.Source c.args.source.now) in
    absurd (subst (λ (e : Status). IsTextPart e c.as_slice.result.now made.printed) is made.is_part)

pub returns-in-Err-Usage-clause-usage : goal.returns-in-Err-Usage-clause-usage
returns-in-Err-Usage-clause-usage g c = λ is.
    no_command _ c.read_words.result c.read_words.ensures.accepts c.read_words.ensures.usage
    c.in-Err-Usage.field-0 c.in-Err-Usage.is c.in-Err-Usage.field-0-is

pub returns-in-Err-Usage-clause-ended : goal.returns-in-Err-Usage-clause-ended
returns-in-Err-Usage-clause-ended g c =
    rw (
      c.not_started.ensures.status,
      c.not_started.ensures.keeper,
      c.not_started.ensures.opening,
      c.not_started.ensures.log,
      c.not_started.ensures.histories,
      c.not_started.ensures.ends,
      c.not_started.ensures.earlier,
      c.not_started.ensures.written,
    )
    (command_err _ c.read_words.result _ _ c.read_words.ensures.accepts c.read_words.ensures.read c.read_words.ensures.usage
    c.in-Err-Usage.field-0 fault.Usage c.in-Err-Usage.is c.in-Err-Usage.field-0-is (
      refl,
      λ place. record {
        same = refl;
        nothing = record { prints = print_none (g.W.Sink.taken c.args.sink.now); no_opening = refl; no_log = refl; no_histories = refl };
        none_earlier = refl;
        unserved = record { no_ends = refl; door = refl };
      },
    ))

pub returns-in-Err-Memory-clause-ended : goal.returns-in-Err-Memory-clause-ended
returns-in-Err-Memory-clause-ended g c =
    rw (
      c.not_started-in-Err-Memory.ensures.status,
      c.not_started-in-Err-Memory.ensures.keeper,
      c.not_started-in-Err-Memory.ensures.opening,
      c.not_started-in-Err-Memory.ensures.log,
      c.not_started-in-Err-Memory.ensures.histories,
      c.not_started-in-Err-Memory.ensures.ends,
      c.not_started-in-Err-Memory.ensures.earlier,
      c.not_started-in-Err-Memory.ensures.written,
    )
    (command_err _ c.read_words.result _ _ c.read_words.ensures.accepts c.read_words.ensures.read c.read_words.ensures.usage
    c.in-Err-Memory.field-0 fault.Memory c.in-Err-Memory.is c.in-Err-Memory.field-0-is (
      refl,
      λ place. record {
        same = refl;
        nothing = record { prints = print_none (g.W.Sink.taken c.args.sink.now); no_opening = refl; no_log = refl; no_histories = refl };
        none_earlier = refl;
        unserved = record { no_ends = refl; door = refl };
      },
    ))

pub returns-in-Ok-Replay-clause-lines : goal.returns-in-Ok-Replay-clause-lines
returns-in-Ok-Replay-clause-lines g c = λ fresh.
    lines_ok _ c.read_words.result _ _ _ c.read_words.ensures.accepts c.read_words.ensures.read c.read_words.ensures.usage
    c.in-Ok-Replay.field-0 (words.Replay c.in-Ok-Replay.place) c.in-Ok-Replay.is c.in-Ok-Replay.field-0-is (none_ended _ _ _ c.replay.ensures.no_ends refl)

pub returns-in-Ok-Work-clause-lines : goal.returns-in-Ok-Work-clause-lines
returns-in-Ok-Work-clause-lines g c = λ fresh.
    lines_ok _ c.read_words.result _ _ _ c.read_words.ensures.accepts c.read_words.ensures.read c.read_words.ensures.usage
    c.in-Ok-Work.field-0 (words.Work c.in-Ok-Work.place c.in-Ok-Work.spec) c.in-Ok-Work.is c.in-Ok-Work.field-0-is (none_ended _ _ _ c.work.ensures.no_ends refl)

pub returns-in-Ok-Serve-clause-lines : goal.returns-in-Ok-Serve-clause-lines
returns-in-Ok-Serve-clause-lines g c = λ fresh.
    lines_ok _ c.read_words.result _ _ _ c.read_words.ensures.accepts c.read_words.ensures.read c.read_words.ensures.usage
    c.in-Ok-Serve.field-0 (words.Serve c.in-Ok-Serve.place c.in-Ok-Serve.spec) c.in-Ok-Serve.is c.in-Ok-Serve.field-0-is (c.serve.ensures.lines fresh)

pub returns-in-Ok-Page-clause-lines : goal.returns-in-Ok-Page-clause-lines
returns-in-Ok-Page-clause-lines g c = λ fresh.
    lines_ok _ c.read_words.result _ _ _ c.read_words.ensures.accepts c.read_words.ensures.read c.read_words.ensures.usage
    c.in-Ok-Page.field-0 (words.Page c.in-Ok-Page.text) c.in-Ok-Page.is c.in-Ok-Page.field-0-is (none_ended _ _ _ c.tell.ensures.no_ends refl)

pub returns-in-Err-Usage-clause-lines : goal.returns-in-Err-Usage-clause-lines
returns-in-Err-Usage-clause-lines g c = λ fresh.
    lines_err _ c.read_words.result _ _ _ c.read_words.ensures.accepts c.read_words.ensures.read c.read_words.ensures.usage
    c.in-Err-Usage.field-0 c.in-Err-Usage.is (none_ended _ _ _ c.not_started.ensures.ends refl)

pub returns-in-Err-Memory-clause-lines : goal.returns-in-Err-Memory-clause-lines
returns-in-Err-Memory-clause-lines g c = λ fresh.
    lines_err _ c.read_words.result _ _ _ c.read_words.ensures.accepts c.read_words.ensures.read c.read_words.ensures.usage
    c.in-Err-Memory.field-0 c.in-Err-Memory.is (none_ended _ _ _ c.not_started-in-Err-Memory.ensures.ends refl)

pub returns-in-Ok-Replay-clause-earlier : goal.returns-in-Ok-Replay-clause-earlier
returns-in-Ok-Replay-clause-earlier g c =
    earlier_ok _ c.read_words.result _ c.read_words.ensures.accepts c.read_words.ensures.read c.read_words.ensures.usage
    c.in-Ok-Replay.field-0 (words.Replay c.in-Ok-Replay.place) c.in-Ok-Replay.is c.in-Ok-Replay.field-0-is c.replay.ensures.none_earlier

pub returns-in-Ok-Work-clause-earlier : goal.returns-in-Ok-Work-clause-earlier
returns-in-Ok-Work-clause-earlier g c =
    earlier_ok _ c.read_words.result _ c.read_words.ensures.accepts c.read_words.ensures.read c.read_words.ensures.usage
    c.in-Ok-Work.field-0 (words.Work c.in-Ok-Work.place c.in-Ok-Work.spec) c.in-Ok-Work.is c.in-Ok-Work.field-0-is c.work.ensures.none_earlier

pub returns-in-Ok-Warm-clause-earlier : goal.returns-in-Ok-Warm-clause-earlier
returns-in-Ok-Warm-clause-earlier g c =
    earlier_ok _ c.read_words.result _ c.read_words.ensures.accepts c.read_words.ensures.read c.read_words.ensures.usage
    c.in-Ok-Warm.field-0 (words.Warm c.in-Ok-Warm.place c.in-Ok-Warm.spec) c.in-Ok-Warm.is c.in-Ok-Warm.field-0-is tt

pub returns-in-Ok-Serve-clause-earlier : goal.returns-in-Ok-Serve-clause-earlier
returns-in-Ok-Serve-clause-earlier g c =
    earlier_ok _ c.read_words.result _ c.read_words.ensures.accepts c.read_words.ensures.read c.read_words.ensures.usage
    c.in-Ok-Serve.field-0 (words.Serve c.in-Ok-Serve.place c.in-Ok-Serve.spec) c.in-Ok-Serve.is c.in-Ok-Serve.field-0-is c.serve.ensures.none_earlier

pub returns-in-Ok-Page-clause-earlier : goal.returns-in-Ok-Page-clause-earlier
returns-in-Ok-Page-clause-earlier g c =
    earlier_ok _ c.read_words.result _ c.read_words.ensures.accepts c.read_words.ensures.read c.read_words.ensures.usage
    c.in-Ok-Page.field-0 (words.Page c.in-Ok-Page.text) c.in-Ok-Page.is c.in-Ok-Page.field-0-is c.tell.ensures.none_earlier

pub returns-in-Err-Usage-clause-earlier : goal.returns-in-Err-Usage-clause-earlier
returns-in-Err-Usage-clause-earlier g c =
    earlier_err _ c.read_words.result _ c.read_words.ensures.accepts c.read_words.ensures.read c.read_words.ensures.usage
    c.in-Err-Usage.field-0 c.in-Err-Usage.is c.not_started.ensures.earlier

pub returns-in-Err-Memory-clause-earlier : goal.returns-in-Err-Memory-clause-earlier
returns-in-Err-Memory-clause-earlier g c =
    earlier_err _ c.read_words.result _ c.read_words.ensures.accepts c.read_words.ensures.read c.read_words.ensures.usage
    c.in-Err-Memory.field-0 c.in-Err-Memory.is c.not_started-in-Err-Memory.ensures.earlier

pub returns-in-Ok-Warm-clause-ended : goal.returns-in-Ok-Warm-clause-ended
returns-in-Ok-Warm-clause-ended g c =
    command_ok _ c.read_words.result _ _ c.read_words.ensures.accepts c.read_words.ensures.read c.read_words.ensures.usage
    c.in-Ok-Warm.field-0 (words.Warm c.in-Ok-Warm.place c.in-Ok-Warm.spec) c.in-Ok-Warm.is c.in-Ok-Warm.field-0-is (
      record { left = refl; count = refl },
      c.warm.ensures.ended (told_by g.S.Source c.args.source.now) _ _,
      record { no_ends = c.warm.ensures.no_ends; door = refl },
    )

pub returns-in-Ok-Warm-clause-doors : goal.returns-in-Ok-Warm-clause-doors
returns-in-Ok-Warm-clause-doors g c =
    subst (λ (b : Bool). RoseWhere g.D.Door.faults b c.args.door.now c.args.door.now)
    (sym (warm_no_door c.warm.result.status c.in-Ok-Warm.spec _
    (c.warm.ensures.ended (told_by g.S.Source c.args.source.now) (seen_at g.D.Door.bound g.D.Door.lines g.D.Door.faults g.D.Door.ended g.D.Door.closed c.args.door.now)
    (files_seen g.F.CacheFile c.args.file.now)))) refl

pub returns-in-Ok-Warm-clause-faultless : goal.returns-in-Ok-Warm-clause-faultless
returns-in-Ok-Warm-clause-faultless g c =
    warm_not_failed c.warm.result.status c.in-Ok-Warm.spec _
    (c.warm.ensures.ended (told_by g.S.Source c.args.source.now) (seen_at g.D.Door.bound g.D.Door.lines g.D.Door.faults g.D.Door.ended g.D.Door.closed c.args.door.now)
    (files_seen g.F.CacheFile c.args.file.now))

pub returns-in-Ok-Warm-clause-done : goal.returns-in-Ok-Warm-clause-done
returns-in-Ok-Warm-clause-done g c = λ place are done.
    absurd (warm_no_replay _ c.read_words.result c.in-Ok-Warm.field-0 c.in-Ok-Warm.place c.in-Ok-Warm.spec c.read_words.ensures.accepts
    c.in-Ok-Warm.is c.in-Ok-Warm.field-0-is place are)

pub returns-in-Ok-Warm-clause-lines : goal.returns-in-Ok-Warm-clause-lines
returns-in-Ok-Warm-clause-lines g c = λ fresh.
    lines_ok _ c.read_words.result _ _ _ c.read_words.ensures.accepts c.read_words.ensures.read c.read_words.ensures.usage
    c.in-Ok-Warm.field-0 (words.Warm c.in-Ok-Warm.place c.in-Ok-Warm.spec) c.in-Ok-Warm.is c.in-Ok-Warm.field-0-is (none_ended _ _ _ c.warm.ensures.no_ends refl)

pub returns-in-Ok-Replay-clause-saves : goal.returns-in-Ok-Replay-clause-saves
returns-in-Ok-Replay-clause-saves g c =
    saved_ok _ c.read_words.result _ _ _ _ _ c.read_words.ensures.accepts c.read_words.ensures.read c.read_words.ensures.usage
    c.in-Ok-Replay.field-0 (words.Replay c.in-Ok-Replay.place) c.in-Ok-Replay.is c.in-Ok-Replay.field-0-is (λ path. refl)

pub returns-in-Ok-Work-clause-saves : goal.returns-in-Ok-Work-clause-saves
returns-in-Ok-Work-clause-saves g c =
    saved_ok _ c.read_words.result _ _ _ _ _ c.read_words.ensures.accepts c.read_words.ensures.read c.read_words.ensures.usage
    c.in-Ok-Work.field-0 (words.Work c.in-Ok-Work.place c.in-Ok-Work.spec) c.in-Ok-Work.is c.in-Ok-Work.field-0-is (λ path. refl)

pub returns-in-Ok-Warm-clause-saves : goal.returns-in-Ok-Warm-clause-saves
returns-in-Ok-Warm-clause-saves g c =
    saved_ok _ c.read_words.result _ _ _ _ _ c.read_words.ensures.accepts c.read_words.ensures.read c.read_words.ensures.usage
    c.in-Ok-Warm.field-0 (words.Warm c.in-Ok-Warm.place c.in-Ok-Warm.spec) c.in-Ok-Warm.is c.in-Ok-Warm.field-0-is (λ path. refl)

pub returns-in-Ok-Serve-clause-saves : goal.returns-in-Ok-Serve-clause-saves
returns-in-Ok-Serve-clause-saves g c =
    saved_ok _ c.read_words.result _ _ _ _ _ c.read_words.ensures.accepts c.read_words.ensures.read c.read_words.ensures.usage
    c.in-Ok-Serve.field-0 (words.Serve c.in-Ok-Serve.place c.in-Ok-Serve.spec) c.in-Ok-Serve.is c.in-Ok-Serve.field-0-is c.serve.ensures.saves

pub returns-in-Ok-Page-clause-saves : goal.returns-in-Ok-Page-clause-saves
returns-in-Ok-Page-clause-saves g c =
    saved_ok _ c.read_words.result _ _ _ _ _ c.read_words.ensures.accepts c.read_words.ensures.read c.read_words.ensures.usage
    c.in-Ok-Page.field-0 (words.Page c.in-Ok-Page.text) c.in-Ok-Page.is c.in-Ok-Page.field-0-is (λ path. refl)

pub returns-in-Err-Usage-clause-saves : goal.returns-in-Err-Usage-clause-saves
returns-in-Err-Usage-clause-saves g c =
    saved_err _ c.read_words.result _ _ _ _ _ c.read_words.ensures.accepts c.read_words.ensures.read c.read_words.ensures.usage
    c.in-Err-Usage.field-0 c.in-Err-Usage.is (ap is_done c.not_started.ensures.status) (λ path. refl)

pub returns-in-Err-Memory-clause-saves : goal.returns-in-Err-Memory-clause-saves
returns-in-Err-Memory-clause-saves g c =
    saved_err _ c.read_words.result _ _ _ _ _ c.read_words.ensures.accepts c.read_words.ensures.read c.read_words.ensures.usage
    c.in-Err-Memory.field-0 c.in-Err-Memory.is (ap is_done c.not_started-in-Err-Memory.ensures.status) (λ path. refl)

pub returns-in-Ok-Replay-clause-file_fault : goal.returns-in-Ok-Replay-clause-file_fault
returns-in-Ok-Replay-clause-file_fault g c = λ is. absurd (replay_no_file c.replay.result.status _ _ _ _ c.replay.result.written c.replay.ensures.ended is)

pub returns-in-Ok-Work-clause-file_fault : goal.returns-in-Ok-Work-clause-file_fault
returns-in-Ok-Work-clause-file_fault g c = λ is.
    absurd (load_no_file c.work.result.status c.in-Ok-Work.spec _ _ _ _ c.work.result.written
    (c.work.ensures.ended (told_by g.S.Source c.args.source.now)) is)

pub returns-in-Ok-Warm-clause-file_fault : goal.returns-in-Ok-Warm-clause-file_fault
returns-in-Ok-Warm-clause-file_fault g c = λ is.
    absurd (warm_no_file c.warm.result.status c.in-Ok-Warm.spec _
    (c.warm.ensures.ended (told_by g.S.Source c.args.source.now) (seen_at g.D.Door.bound g.D.Door.lines g.D.Door.faults g.D.Door.ended g.D.Door.closed c.args.door.now)
    (files_seen g.F.CacheFile c.args.file.now)) is)

pub returns-in-Ok-Page-clause-file_fault : goal.returns-in-Ok-Page-clause-file_fault
returns-in-Ok-Page-clause-file_fault g c = λ is.
    absurd (text_no_file _ c.tell.result.status _ _ _ c.tell.result.written (c.tell.ensures.told (told_by g.S.Source c.args.source.now)) is)
