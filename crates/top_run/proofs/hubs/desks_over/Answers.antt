use Rattle.std.proofs.Common.{List, [], ◌∷◌, length, length-append, sym, ap, subst, arith, ◌∙◌}
use Rattle.log_word.specs.Passes.{PassView}
use Rattle.bound_desk.specs.Bound.{BoundDeskView}
use Rattle.top_run.specs.Ready.{AreNewDesks}
use Rattle.top_run.proofs.ReadyLemmas.{one_more_desk}
use Rattle.top_run.proofs.hubs.desks_over.Goals as goal

pub loop-worker-preserved : goal.loop-worker-preserved
loop-worker-preserved g c =
    let before = c.loop-worker.invariant in
    let desks = c.loop-worker.desks.items in
    let new = c.new.result in
    let is = c.push_reserved.ensures.items in
    record {
      many =
          let longer = ap (λ (l : List BoundDeskView). length l) is in
          let one_more = length-append desks (new ∷ []) in
          let many = before.many in omega (arith, longer, one_more, many);
      new = subst (λ (l : List BoundDeskView). AreNewDesks 0 l) (sym is)
          (let many = before.many in let number = c.new.ensures.worker in one_more_desk desks new 0 before.new (omega (arith, many, number)) c.new.ensures.calls);
      room = grind (arith, before.room, c.push_reserved.ensures.capacity);
      word = ap (λ (p : PassView). p.word) c.pass-pass.ensures.same ∙ before.word;
    }
