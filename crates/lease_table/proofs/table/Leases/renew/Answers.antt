use Rattle.std.proofs.Common.{refl, find, ap, sym, ◌∙◌}
use Rattle.lease_table.specs.Leases.{has_token}
use Rattle.lease_table.proofs.ChangeLemmas.{IsKept-renewed, Leaves-renewed, listed-found}
use Rattle.lease_table.proofs.LapseLemmas.{AreListed-same, reads-kept}
use Rattle.lease_table.proofs.table.Leases.renew.Goals as goal

pub renew-requires-clause-listed : goal.renew-requires-clause-listed
renew-requires-clause-listed c =
    let stood = rw (← c.self.view_is) at c.on_key.ensures.quars in
    listed-found c.args.key.now c.args.token c.in-Some.quar c.self.inside.leases c.self.inside.index c.self.invariant.0
    (ap (find (has_token c.args.token)) (sym stood) ∙ sym c.in-Some.ensures)

pub invariant_of-self : goal.invariant_of-self
invariant_of-self c = (
  IsKept-renewed c.args.key.now c.args.token c.args.deadline c.self.inside.leases c.change_quar.new.leases
      c.self.inside.index c.self.invariant.0 c.change_quar.ensures c.renew.new.self c.renew.ensures.sound c.renew.ensures.others c.renew.ensures.listed,
  AreListed-same c.self.inside.leases c.change_quar.new.leases c.self.inside.lapses c.self.inside.lapses c.self.invariant.1 (λ q. refl)
      (reads-kept c.args.key.now _ c.self.inside.leases c.change_quar.new.leases c.change_quar.ensures),
)

pub returns-clause-after : goal.returns-clause-after
returns-clause-after c =
    rw (← c.self.view_is) (Leaves-renewed c.args.key.now c.args.token c.args.deadline c.self.inside.leases c.change_quar.new.leases
    c.self.inside.index c.self.invariant.0 c.change_quar.ensures)
