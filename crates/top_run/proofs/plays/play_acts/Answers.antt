use Rattle.std.proofs.Common.{◌+◌, ◌++◌, ℕ, drop, length, sym, subst, ◌∙◌, List, arith}
use Rattle.std.proofs.lemmas.Iterator.Adapters.{YieldsList-from_vec}
use Rattle.std.proofs.lemmas.Iterator.Consumers.{YieldsList-turn, YieldsList-end}
use Rattle.std.proofs.lemmas.List.{length_push, take_all}
use Rattle.run_inputs.specs.declared.scripts.Act.{Act}
use Rattle.top_run.specs.Runs.{calls_of}
use Rattle.top_run.specs.Plays.{IsPlayed, Stops}
use Rattle.top_run.proofs.PlayStates.{HasPlayed}
use Rattle.top_run.proofs.PlayLemmas.{can_first, can_rest, can_act, stands_at, stops_at, on_err}
use Rattle.top_run.proofs.plays.play_acts.Goals as goal

pub play_act-requires : goal.play_act-requires
play_act-requires g c =
    let acts = c.args.acts.items in
    let i = length c.loop-act.yielded in
    let given = c.into_iter-act-iterator.ensures.into_iter_gives in
    let t = YieldsList-turn (YieldsList-from_vec acts given.0 (given.1 ∙ c.args.acts.ok.0))
    c.loop-act.yielded c.loop-act.act-iterator c.loop-act.yielded_by c.next.result c.next.new.self c.in-Some.act c.in-Some.is c.next.ensures.steps in
    can_first c.loop-act.core c.in-Some.act (drop (i + 1) acts) _ _ (can_act c.loop-act.core acts i c.in-Some.act _ _ t.0 t.1 c.loop-act.invariant.can)

pub returns-in_err-play_act-clause-some : goal.returns-in_err-play_act-clause-some
returns-in_err-play_act-clause-some g c = λ origin calls taken h.
    let acts = c.args.acts.items in
    let given = c.into_iter-act-iterator.ensures.into_iter_gives in
    let t = YieldsList-turn (YieldsList-from_vec acts given.0 (given.1 ∙ c.args.acts.ok.0))
    c.loop-act.yielded c.loop-act.act-iterator c.loop-act.yielded_by c.next.result c.next.new.self c.in-Some.act c.in-Some.is c.next.ensures.steps in
    on_err {P = Stops c.play_act.new.core origin (calls ++ calls_of acts) taken (g.W.Sink.taken c.play_act.new.sink) c.play_act.new.tally}
    c.from_residual.result
    (stops_at c.play_act.new.core acts (length c.loop-act.yielded) c.in-Some.act origin calls taken
    (g.W.Sink.taken c.play_act.new.sink) c.play_act.new.tally t.0 t.1
    (c.in_err-play_act.ensures.some origin _ taken (c.loop-act.invariant.so_far origin calls taken h)))

pub loop-act-preserved : goal.loop-act-preserved
loop-act-preserved g c =
    let acts = c.args.acts.items in
    let i = length c.loop-act.yielded in
    let given = c.into_iter-act-iterator.ensures.into_iter_gives in
    let t = YieldsList-turn (YieldsList-from_vec acts given.0 (given.1 ∙ c.args.acts.ok.0))
    c.loop-act.yielded c.loop-act.act-iterator c.loop-act.yielded_by c.next.result c.next.new.self c.in-Some.act c.in-Some.is c.next.ensures.steps in
    let P : ℕ → Type 0 = λ n. HasPlayed c.args.core.now c.play_act.new.core acts n (g.W.Sink.taken c.args.sink.now)
    (g.W.Sink.taken c.play_act.new.sink) (g.W.Sink.faults c.args.sink.now) (g.W.Sink.faults c.play_act.new.sink) c.args.tally.now c.play_act.new.tally in
    subst P (sym (length_push c.loop-act.yielded c.in-Some.act)) (record {
      can = can_rest c.loop-act.core c.play_act.new.core c.in-Some.act
          (drop (i + 1) acts) _ _ _ _ (can_act c.loop-act.core acts i c.in-Some.act _ _ t.0 t.1 c.loop-act.invariant.can) c.in_ok-play_act.ensures.all;
      so_far = λ origin calls taken h.
          stands_at c.loop-act.core c.play_act.new.core acts i c.in-Some.act origin calls taken _ _ _ _ t.0 t.1
          (c.loop-act.invariant.so_far origin calls taken h) c.in_ok-play_act.ensures.all;
      same = c.in_ok-play_act.ensures.counts ∙ c.loop-act.invariant.same;
    })

pub returns-clause-all : goal.returns-clause-all
returns-clause-all g c = λ origin calls taken h.
    let acts = c.args.acts.items in
    let given = c.into_iter-act-iterator.ensures.into_iter_gives in
    let t = YieldsList-end (YieldsList-from_vec acts given.0 (given.1 ∙ c.args.acts.ok.0))
    c.loop-act.yielded c.loop-act.act-iterator c.loop-act.yielded_by c.next.result c.next.new.self c.in-None.is c.next.ensures.steps in
    subst (λ (xs : List Act). IsPlayed c.loop-act.core origin (calls ++ calls_of xs) taken (g.W.Sink.taken c.loop-act.sink) c.loop-act.tally)
    (take_all (length c.loop-act.yielded) acts (omega (arith, t.1))) (c.loop-act.invariant.so_far origin calls taken h)
