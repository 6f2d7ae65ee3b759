use Rattle.std.proofs.Common.{◌∙◌, sym, ap, subst}
use Rattle.core_history.specs.Lines.{lines_of}
use Rattle.top_run.specs.declared.plays.Tally.{Tally}
use Rattle.top_run.specs.Runs.{past_of, Prints}
use Rattle.top_run.proofs.PlayLemmas.{stopped_at_turn, stopped_at_line, stands_after_turn, on_err}
use Rattle.top_run.proofs.plays.play_turn.Goals as goal

pub returns-in_err-turn_line-clause-some : goal.returns-in_err-turn_line-clause-some
returns-in_err-turn_line-clause-some g c = λ origin calls taken h.
    on_err _ (stopped_at_turn c.args.core.now c.step.new.self origin calls c.args.turn taken
    (g.W.Sink.taken c.args.sink.now) c.args.tally.now h (c.in_err-turn_line.ensures.err origin h.moves h.at))

pub returns-in_err-print-clause-some : goal.returns-in_err-print-clause-some
returns-in_err-print-clause-some g c = λ origin calls taken h.
    let made = c.in_ok-turn_line.ensures.takes origin h.moves h.at in
    let lines = lines_of (past_of origin.shape h.moves) in
    let before = subst (λ (t : Tally). Prints taken (g.W.Sink.taken c.args.sink.now) lines t.written) (sym c.note.ensures) h.prints in
    on_err _ (stopped_at_line c.args.core.now c.step.new.self origin calls c.args.turn made.0 taken (g.W.Sink.taken c.args.sink.now)
    (g.W.Sink.taken c.print.new.sink) c.args.tally.now _ c.line.result.now h (c.line.ensures
    ∙ made.2.0) made.1 (c.in_err-print.ensures.some taken lines before))

pub returns-clause-all : goal.returns-clause-all
returns-clause-all g c = λ origin calls taken h.
    let made = c.in_ok-turn_line.ensures.takes origin h.moves h.at in
    let lines = lines_of (past_of origin.shape h.moves) in
    let before = subst (λ (t : Tally). Prints taken (g.W.Sink.taken c.args.sink.now) lines t.written) (sym c.note.ensures) h.prints in
    stands_after_turn c.args.core.now c.step.new.self origin calls c.args.turn made.0 taken (g.W.Sink.taken c.args.sink.now) (g.W.Sink.taken c.print.new.sink)
    c.args.tally.now _ c.line.result.now c.fault.result h (c.line.ensures
    ∙ made.2.0) (c.fault.ensures ∙ made.2.1) made.1 (c.in_ok-print.ensures.all taken lines before) (ap (λ (t : Tally). t.faulted) c.note.ensures)
