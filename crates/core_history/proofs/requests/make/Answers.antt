use Rattle.std.proofs.Common.{sym, ◌∙◌}
use Rattle.core_history.proofs.MakeLemmas.{makes_step, makes_call}
use Rattle.core_history.proofs.requests.make.Goals as goal

pub make_on-requires-clause-home : goal.make_on-requires-clause-home
make_on-requires-clause-home g c = c.requires.homes c.in-Some.key

pub returns-in-Some-clause-makes : goal.returns-in-Some-clause-makes
returns-in-Some-clause-makes g c origin world stands time =
    makes_step origin world c.args.who c.args.request c.in-Some.key c.make_on.new.shards.items c.args.store.now c.make_on.result
    (sym c.key_of.ensures.key ∙ c.in-Some.is) stands.1 (c.make_on.ensures.makes origin.shape world stands.0 time)

pub returns-in-None-clause-makes : goal.returns-in-None-clause-makes
returns-in-None-clause-makes g c origin world stands time =
    makes_call origin world c.args.who c.args.request c.args.shards.now.items c.make_at.new.store c.make_at.result
    (sym c.key_of.ensures.key ∙ c.in-None.is) stands.0 (c.make_at.ensures.makes origin world stands.1)
