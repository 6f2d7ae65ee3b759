use Rattle.std.proofs.Common.{◌≡◌, true, rules, ap, ◌∙◌}
use Rattle.case_tables.specs.Compatibility.{quarantine, verdict, is_given}
use Rattle.lease_table.specs.Leases.{first, way_of, holding_of}
use Rattle.lease_table.proofs.MapLemmas.{records-at}
use Rattle.lease_table.proofs.TableLemmas.{IsKept-index, IsKept-stays}
use Rattle.lease_table.proofs.ChangeLemmas.{IsKept-quar, Leaves-quar}
use Rattle.lease_table.proofs.table.Leases.ask_q.Goals as goal

pub record_quar-requires-clause-was : goal.record_quar-requires-clause-was
record_quar-requires-clause-was c =
    let reader = rw (← c.self.view_is) at c.on_key-there.ensures.reader in
    reader ∙ ap first (records-at c.args.key c.self.inside.leases c.self.invariant.0.in_order).reads_there

pub invariant_of-self-in_err-record_quar-in-Give : goal.invariant_of-self-in_err-record_quar-in-Give
invariant_of-self-in_err-record_quar-in-Give c =
    let listed = IsKept-index c.self.inside.leases c.self.inside.index c.list.new.self c.self.invariant.0 c.list.ensures.sound c.list.ensures.lists in (
      IsKept-stays c.self.inside.leases c.record_quar.new.leases c.list.new.self listed c.in_err-record_quar-in-Give.ensures.err,
      c.record_quar.ensures.listed,
    )

pub invariant_of-self-in-Continue-branch-2 : goal.invariant_of-self-in-Continue-branch-2
invariant_of-self-in-Continue-branch-2 c =
    let reader = rw (← c.self.view_is) at c.on_key-there.ensures.reader in
    let stood = rw (← c.self.view_is) at c.on_key-there.ensures.quars in
    let below = rw (← c.self.view_is) at c.requires in
    let given : is_given c.quar_verdict-verdict.result ≡ true = search rules in (
      IsKept-quar c.args.key c.args.q c.self.inside.leases c.record_quar.new.leases c.self.inside.index c.self.invariant.0 below
          c.in_ok-record_quar-in-Give.ensures.ok c.args.now c.quar_verdict-verdict.result (c.quar_verdict-verdict.ensures
          ∙ (λ i. verdict (holding_of c.args.q.sid c.args.now (reader i) (stood i)) (quarantine (way_of c.args.q.mode)))) given
          c.list.new.self c.list.ensures.sound c.list.ensures.lists c.in_ok-list-in-Give.ensures.listed,
      c.record_quar.ensures.listed,
    )

pub returns-in_ok-record_quar-in-Give-clause-after : goal.returns-in_ok-record_quar-in-Give-clause-after
returns-in_ok-record_quar-in-Give-clause-after c =
    let below = rw (← c.self.view_is) at c.requires in
    let given : is_given c.quar_verdict-verdict.result ≡ true = search rules in
    rw (given, ← c.self.view_is) (Leaves-quar c.args.key c.args.q c.self.inside.leases
    c.record_quar.new.leases c.self.inside.index c.self.invariant.0 below c.in_ok-record_quar-in-Give.ensures.ok)
