use Rattle.std.proofs.Common.{sym, subst, Bool}
use Rattle.top_run.specs.Runs.{told_by, RoseWhere}
use Rattle.top_run.proofs.RunLemmas.{not_failed, done_quiet}
use Rattle.top_run.proofs.runs.replay.Goals as goal

pub returns-in-Ok-clause-ended : goal.returns-in-Ok-clause-ended
returns-in-Ok-clause-ended g c =
    c.start_script.ensures.ended (told_by g.S.Source c.args.source.now) (told_by g.S.Source c.read_script.new.source) c.in-Ok.ensures.read

pub returns-in-Ok-clause-reads : goal.returns-in-Ok-clause-reads
returns-in-Ok-clause-reads g c =
    subst (λ (b : Bool). RoseWhere g.S.Source.faults b c.args.source.now c.read_script.new.source)
    (sym c.start_script.ensures.no_read_fault) c.in-Ok.ensures.no_fault

pub returns-in-Ok-clause-done : goal.returns-in-Ok-clause-done
returns-in-Ok-clause-done g c =
    done_quiet c.start_script.result.status _ _ _ _ c.start_script.result.written
    (c.start_script.ensures.ended (told_by g.S.Source c.args.source.now) (told_by g.S.Source c.read_script.new.source) c.in-Ok.ensures.read)

pub returns-in-Ok-clause-faultless : goal.returns-in-Ok-clause-faultless
returns-in-Ok-clause-faultless g c =
    not_failed c.start_script.result.status _ _ _ _ c.start_script.result.written
    (c.start_script.ensures.ended (told_by g.S.Source c.args.source.now) (told_by g.S.Source c.read_script.new.source) c.in-Ok.ensures.read)
