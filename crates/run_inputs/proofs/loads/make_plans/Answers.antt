use Rattle.std.proofs.Common.{◌≡◌, length, arith, sym, ap, ◌∙◌}
use Rattle.run_inputs.proofs.DrawLemmas.{generator_is, after_none}
use Rattle.run_inputs.proofs.LoadLemmas.{dealt, dealt_none, dealt_all, dealt_len, dealt_push, plan_is, four_more, plans_are}
use Rattle.run_inputs.proofs.loads.make_plans.Goals as goal

pub loop-session-init : goal.loop-session-init
loop-session-init c = record {
  dealt = dealt_none c.args.spec.now _ c.in_ok-workers.ensures;
  drawn = c.new-generator.ensures ∙ (generator_is c.args.spec.now.seed ∙ sym (after_none _));
}

pub index_mut-requires : goal.index_mut-requires
index_mut-requires c =
    let count : length c.loop-session.workers.items ≡ c.args.spec.now.workers = dealt_len _ c.args.spec.now _ _ c.loop-session.invariant.dealt in
    let some = c.requires.some_workers in
    omega arith

pub loop-session-preserved : goal.loop-session-preserved
loop-session-preserved c = record {
  dealt = dealt_push _ c.args.spec.now c.loop-session.session c.loop-session.workers.items
      c.index_mut.result.now c.push.new.self c.in_ok-plan.plan c.requires c.loop-session.invariant.dealt
      c.index_mut.ensures.value c.in_ok-push.ensures.items
      (plan_is c.args.spec.now c.loop-session.session c.loop-session.generator
      c.next-draws.result c.in_ok-plan.plan c.loop-session.invariant.drawn c.next-draws.ensures.draws c.in_ok-plan.ensures);
  drawn = four_more c.loop-session.session _ c.loop-session.generator c.next-draws.new.generator c.loop-session.invariant.drawn c.next-draws.ensures.left;
}

pub returns-clause-load : goal.returns-clause-load
returns-clause-load c =
    let last : c.loop-session.session ≡ c.args.spec.now.sessions = omega arith in
    c.loop-session.invariant.dealt ∙ (ap (dealt c.args.spec.now) last ∙ sym (dealt_all c.args.spec.now))

pub returns-clause-are_plans : goal.returns-clause-are_plans
returns-clause-are_plans c =
    let last : c.loop-session.session ≡ c.args.spec.now.sessions = omega arith in
    plans_are _ c.args.spec.now c.loop-session.workers.items c.requires (c.loop-session.invariant.dealt ∙ ap (dealt c.args.spec.now) last)
