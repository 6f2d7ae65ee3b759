use Rattle.core_history.proofs.StoreEvents.{call_is}
use Rattle.core_history.proofs.requests.make_at.Goals as goal

pub returns-clause-makes : goal.returns-clause-makes
returns-clause-makes g c origin world stands =
    call_is c.args.store.now c.on_store.new.store origin world c.args.who c.args.request c.on_store.result c.unless_memory.result
    stands c.requires.some c.on_store.ensures.never_falls c.on_store.ensures.makes c.unless_memory.ensures
