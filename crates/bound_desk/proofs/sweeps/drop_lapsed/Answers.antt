use Rattle.bound_desk.proofs.DropLemmas.{stays_same, stays_on, stays_alike, stays_found}
use Rattle.bound_desk.proofs.sweeps.drop_lapsed.Goals as goal

pub loop-count-init : goal.loop-count-init
loop-count-init g c = record { stays = stays_same c.args.shard.now }

pub returns-in_err-lapse-clause-stays : goal.returns-in_err-lapse-clause-stays
returns-in_err-lapse-clause-stays g c =
    stays_on c.args.shard.now c.loop-count.shard c.lapse.new.self c.loop-count.invariant.stays
    (stays_alike c.loop-count.shard c.lapse.new.self c.in_err-lapse.ensures.err c.lapse.ensures.here)

pub returns-then-is_none-clause-stays : goal.returns-then-is_none-clause-stays
returns-then-is_none-clause-stays g c =
    stays_on c.args.shard.now c.loop-count.shard c.lapse.new.self c.loop-count.invariant.stays
    (stays_found _ c.loop-count.shard c.lapse.new.self c.args.now c.in_ok-lapse.ensures.step c.in_ok-lapse.ensures.left c.lapse.ensures.here)

pub loop-count-preserved : goal.loop-count-preserved
loop-count-preserved g c = record {
  stays = stays_on c.args.shard.now c.loop-count.shard c.lapse.new.self c.loop-count.invariant.stays
      (stays_found _ c.loop-count.shard c.lapse.new.self c.args.now c.in_ok-lapse.ensures.step c.in_ok-lapse.ensures.left c.lapse.ensures.here);
}

pub returns-clause-stays : goal.returns-clause-stays
returns-clause-stays g c = c.loop-count.invariant.stays
