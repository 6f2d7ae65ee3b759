use Rattle.std.proofs.Common.{◌≡◌, ◌-◌, ◌+◌, ◌∙◌, arith}
use Rattle.top_run.proofs.PlayLemmas.{can_take, can_turn, stands_turn, stops_turn, on_err}
use Rattle.top_run.proofs.plays.play_turns.Goals as goal

pub play_turn-requires-clause-running : goal.play_turn-requires-clause-running
play_turn-requires-clause-running g c = (can_take c.loop-taken.core c.args.turn (c.args.count - c.loop-taken._taken) _ _ c.loop-taken.invariant.can).0

pub play_turn-requires-clause-begun : goal.play_turn-requires-clause-begun
play_turn-requires-clause-begun g c = (can_take c.loop-taken.core c.args.turn (c.args.count - c.loop-taken._taken) _ _ c.loop-taken.invariant.can).1

pub returns-in_err-play_turn-clause-some : goal.returns-in_err-play_turn-clause-some
returns-in_err-play_turn-clause-some g c = λ origin calls taken h.
    on_err _ (stops_turn c.play_turn.new.core c.args.turn c.args.count c.loop-taken._taken origin calls taken
    (g.W.Sink.taken c.play_turn.new.sink) c.play_turn.new.tally (omega arith)
    (c.in_err-play_turn.ensures.some origin _ taken (c.loop-taken.invariant.so_far origin calls taken h)))

pub loop-taken-preserved : goal.loop-taken-preserved
loop-taken-preserved g c =
    record {
      can = can_turn c.loop-taken.core c.play_turn.new.core c.args.turn (c.args.count - c.loop-taken._taken)
          (c.args.count - (c.loop-taken._taken + 1)) _ _ _ _ (omega arith) c.loop-taken.invariant.can c.in_ok-play_turn.ensures.all;
      so_far = λ origin calls taken h.
          stands_turn c.loop-taken.core c.play_turn.new.core c.args.turn c.loop-taken._taken origin calls taken _ _ _ _
          (c.loop-taken.invariant.so_far origin calls taken h) c.in_ok-play_turn.ensures.all;
      same = c.in_ok-play_turn.ensures.counts ∙ c.loop-taken.invariant.same;
    }

pub returns-clause-all : goal.returns-clause-all
returns-clause-all g c = λ origin calls taken h.
    let all : c.loop-taken._taken ≡ c.args.count = omega arith in
    rw (← all) (c.loop-taken.invariant.so_far origin calls taken h)
