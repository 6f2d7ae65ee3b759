use Rattle.std.proofs.Common.{refl}
use Rattle.sqlite_pool.specs.Pool.{state}
use Rattle.sqlite_keeper.proofs.opening.open_fresh.Goals as goal

pub returns-clause-told : goal.returns-clause-told
unfolding state
returns-clause-told c = c.in_ok-base.ensures.told (λ store. refl)
