use Rattle.top_run.proofs.PrintLemmas.{print_some}
use Rattle.top_run.proofs.printing.print.Goals as goal

pub returns-in-Err-clause-some : goal.returns-in-Err-clause-some
returns-in-Err-clause-some g c = λ taken printed h.
    print_some taken (g.W.Sink.taken c.args.sink.now)
    (g.W.Sink.taken c.write_all.new.sink) printed c.args.bytes.now c.in-Err.short.written c.args.written.now c.saturating_add-in-Err.result
    h c.in-Err.ensures.some c.in-Err.ensures.fewer c.saturating_add-in-Err.ensures
