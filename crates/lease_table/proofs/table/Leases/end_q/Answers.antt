use Rattle.std.proofs.Common.{refl}
use Rattle.lease_table.proofs.ChangeLemmas.{IsKept-end, Leaves-end}
use Rattle.lease_table.proofs.LapseLemmas.{AreListed-same, reads-kept}
use Rattle.lease_table.proofs.table.Leases.end_q.Goals as goal

pub invariant_of-self : goal.invariant_of-self
invariant_of-self c = (
  IsKept-end c.args.key.now c.args.token c.self.inside.leases c.drop_quar.new.leases c.self.inside.index c.self.invariant.0 c.drop_quar.ensures,
  AreListed-same c.self.inside.leases c.drop_quar.new.leases c.self.inside.lapses c.self.inside.lapses c.self.invariant.1 (λ q. refl)
      (reads-kept c.args.key.now _ c.self.inside.leases c.drop_quar.new.leases c.drop_quar.ensures),
)

pub returns-clause-after : goal.returns-clause-after
returns-clause-after c =
    rw (← c.self.view_is) (Leaves-end c.args.key.now c.args.token c.self.inside.leases c.drop_quar.new.leases
    c.self.inside.index c.self.invariant.0 c.drop_quar.ensures)
