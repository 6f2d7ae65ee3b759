use Rattle.core_history.specs.Events.{sweeps_of}
use Rattle.core_history.proofs.SweptLemmas.{sweep_takes}
use Rattle.core_history.proofs.sweeps.sweep_turn.Goals as goal

pub returns-clause-takes : goal.returns-clause-takes
returns-clause-takes g c origin world stands time has =
    let made = c.make_sweep-reply in
    let heard = sweeps_of world.past in
    sweep_takes origin world c.wants-request.result made.new.shards.items made.new.store c.args.sweeper.now c.hear.new.self made.result c.sweep_line.result has
    (c.wants-request.ensures.wanted heard has.following) (made.ensures.sweeps origin world stands time) c.hear.ensures.shards
    (c.hear.ensures.follows heard has.following) c.sweep_line.ensures
