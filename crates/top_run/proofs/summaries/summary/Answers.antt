use Rattle.run_audit.specs.Findings.{histories_in}
use Rattle.top_run.proofs.SummaryLemmas.{summary_is}
use Rattle.top_run.proofs.summaries.summary.Goals as goal

pub returns : goal.returns
returns c =
    rw (c.in_ok-push_audit.ensures, c.in_ok-push_totals.ensures, c.in_ok-push_load.ensures, c.new-text.ensures.items)
    (summary_is c.args.spec.now c.args.log.now (histories_in c.args.shards.now) c.args.others.bypasses c.args.others.rejected c.args.finding)
