use Rattle.std.proofs.Common.{rules, [], ◌++◌, ◌∙◌}
use Rattle.top_run.specs.Serves.{served_line}
use Rattle.top_run.proofs.PrintLemmas.{print_none}
use Rattle.top_run.proofs.ServeLemmas.{ready_cut}
use Rattle.top_run.proofs.serves.open_up.Goals as goal

pub returns-in-Ok-clause-told : goal.returns-in-Ok-clause-told
returns-in-Ok-clause-told g c =
    let taken = g.W.Sink.taken c.args.sink.now in
    c.in-Ok.ensures.all taken [] (rw c.requires.nothing (print_none taken))

pub returns-in-Err-clause-halted : goal.returns-in-Err-clause-halted
returns-in-Err-clause-halted g c = λ begun is.
    let taken = g.W.Sink.taken c.args.sink.now in
    let cut = c.in-Err.ensures.some taken [] (rw c.requires.nothing (print_none taken)) in
    (cut.0, (λ some. search rules), (cut.1 ++ served_line 0, ready_cut begun cut.0 cut.1 0 (cut.2 ∙ is)), cut.3)
