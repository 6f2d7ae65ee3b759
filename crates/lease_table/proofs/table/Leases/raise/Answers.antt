use Rattle.std.proofs.Common.{refl, ◌≡◌, true, ap, sym, ◌∙◌}
use Rattle.case_tables.specs.Compatibility.{is_raised}
use Rattle.lease_table.specs.Leases.{raise_in, quars}
use Rattle.lease_table.specs.Standing.{records}
use Rattle.lease_table.proofs.ChangeLemmas.{IsKept-raised, Leaves-raised}
use Rattle.lease_table.proofs.LapseLemmas.{AreListed-same, reads-kept}
use Rattle.lease_table.proofs.table.Leases.raise.Goals as goal

pub invariant_of-self : goal.invariant_of-self
invariant_of-self c =
    let stood = rw (← c.self.view_is) at c.on_key.ensures.quars in
    let is_raise = sym c.in-Raise.is ∙ c.raise_verdict-verdict.ensures ∙ ap (raise_in c.args.sid c.args.token) stood in
    let raises : is_raised (raise_in c.args.sid c.args.token (quars c.args.key.now (records c.self.inside.leases.entries))) ≡ true = ap is_raised (sym is_raise) in (
      IsKept-raised c.args.key.now c.args.sid c.args.token c.self.inside.leases c.change_quar.new.leases
          c.self.inside.index c.self.invariant.0 raises c.change_quar.ensures,
      AreListed-same c.self.inside.leases c.change_quar.new.leases c.self.inside.lapses c.self.inside.lapses c.self.invariant.1 (λ q. refl)
          (reads-kept c.args.key.now _ c.self.inside.leases c.change_quar.new.leases c.change_quar.ensures),
    )

pub returns-in-Raise-clause-after : goal.returns-in-Raise-clause-after
returns-in-Raise-clause-after c =
    let stood = rw (← c.self.view_is) at c.on_key.ensures.quars in
    let is_raise = sym c.in-Raise.is ∙ c.raise_verdict-verdict.ensures ∙ ap (raise_in c.args.sid c.args.token) stood in
    let raises : is_raised (raise_in c.args.sid c.args.token (quars c.args.key.now (records c.self.inside.leases.entries))) ≡ true = ap is_raised (sym is_raise) in
    let it : is_raised c.raise_verdict-verdict.result ≡ true = ap is_raised c.in-Raise.is in
    rw (it, ← c.self.view_is) (Leaves-raised c.args.key.now c.args.sid c.args.token c.self.inside.leases c.change_quar.new.leases
    c.self.inside.index c.self.invariant.0 raises c.change_quar.ensures)
