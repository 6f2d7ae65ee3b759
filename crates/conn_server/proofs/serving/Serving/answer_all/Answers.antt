use Rattle.std.proofs.lemmas.Result.{err_from_is_err_and}
use Rattle.conn_server.proofs.serving.Serving.answer_all.Goals as goal

pub returns-in_err-answer_next-clause-ends : goal.returns-in_err-answer_next-clause-ends
returns-in_err-answer_next-clause-ends g c =
    let p = err_from_is_err_and c.from_residual.result c.from_residual.ensures.1 in
    rw (p.1, p.2) (λ start rounds course. c.in_err-answer_next.ensures.ends start rounds (c.loop.invariant.goes start rounds course))

pub returns-then-not-branch-clause-goes_on : goal.returns-then-not-branch-clause-goes_on
returns-then-not-branch-clause-goes_on g c =
    λ start rounds course. c.in_ok-answer_next.ensures.goes_on start rounds (c.loop.invariant.goes start rounds course)

pub loop-preserved : goal.loop-preserved
loop-preserved g c = record {
  within = c.in_ok-answer_next.ensures.within;
  goes = λ start rounds course. c.in_ok-answer_next.ensures.goes_on start rounds (c.loop.invariant.goes start rounds course);
}
