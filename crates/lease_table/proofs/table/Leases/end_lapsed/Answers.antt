use Rattle.std.proofs.Common.{sym, ap, ◌∙◌}
use Rattle.lease_table.specs.Lapses.{is_lapsed}
use Rattle.lease_table.specs.Leases.{first}
use Rattle.lease_table.proofs.ChangeLemmas.{IsKept-lapsed, Leaves-lapsed}
use Rattle.lease_table.proofs.MapLemmas.{records-at}
use Rattle.lease_table.proofs.table.Leases.end_lapsed.Goals as goal

pub end_read-requires-clause-was : goal.end_read-requires-clause-was
end_read-requires-clause-was c =
    let reader = rw (← c.self.view_is) at c.on_key-reader.ensures.reader in
    reader ∙ ap first (records-at c.args.key.now c.self.inside.leases c.self.invariant.0.in_order).reads_there

pub invariant_of-self : goal.invariant_of-self
invariant_of-self c =
    let reader = rw (← c.self.view_is) at c.on_key-reader.ensures.reader in
    let lapsed = ap (is_lapsed c.args.token c.args.now) (sym reader) ∙ sym c.is_lapsed_at.ensures ∙ c.if-not-is_lapsed_at.false in (
      IsKept-lapsed c.args.key.now c.args.token c.args.now c.self.inside.leases
          c.end_read.new.leases c.self.inside.index c.self.invariant.0 lapsed c.end_read.ensures.puts,
      c.end_read.ensures.listed,
    )

pub returns-clause-after : goal.returns-clause-after
returns-clause-after c =
    let reader = rw (← c.self.view_is) at c.on_key-reader.ensures.reader in
    let lapsed = ap (is_lapsed c.args.token c.args.now) (sym reader) ∙ sym c.is_lapsed_at.ensures ∙ c.if-not-is_lapsed_at.false in
    rw (← c.self.view_is) (Leaves-lapsed c.args.key.now c.args.token
    c.args.now c.self.inside.leases c.end_read.new.leases c.self.inside.index c.self.invariant.0 lapsed c.end_read.ensures.puts)
