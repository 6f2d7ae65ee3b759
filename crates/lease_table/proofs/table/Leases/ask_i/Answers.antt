use Rattle.std.proofs.Common.{◌≡◌, true, rules, ap, ◌∙◌}
use Rattle.case_tables.specs.Compatibility.{read, verdict, is_given}
use Rattle.lease_table.specs.Leases.{first, holding_of}
use Rattle.lease_table.proofs.MapLemmas.{records-at}
use Rattle.lease_table.proofs.TableLemmas.{IsKept-stays}
use Rattle.lease_table.proofs.ChangeLemmas.{IsKept-read, Leaves-read}
use Rattle.lease_table.proofs.table.Leases.ask_i.Goals as goal

pub record_read-requires-clause-was : goal.record_read-requires-clause-was
record_read-requires-clause-was c =
    let reader = rw (← c.self.view_is) at c.on_key-there.ensures.reader in
    reader ∙ ap first (records-at c.args.key c.self.inside.leases c.self.invariant.0.in_order).reads_there

pub invariant_of-self : goal.invariant_of-self
invariant_of-self c =
    let reader = rw (← c.self.view_is) at c.on_key-there.ensures.reader in
    let stood = rw (← c.self.view_is) at c.on_key-there.ensures.quars in
    let given : is_given c.read_verdict-verdict.result ≡ true = search rules in (
      IsKept-read c.args.key (record { sid = c.args.sid; token = c.args.token; deadline = c.args.deadline }) c.args.now c.self.inside.leases c.record_read.new.leases
          c.self.inside.index c.read_verdict-verdict.result c.self.invariant.0 (c.read_verdict-verdict.ensures
          ∙ (λ i. verdict (holding_of c.args.sid c.args.now (reader i) (stood i)) read)) given c.in_ok-record_read-in-Give.ensures.ok,
      c.record_read.ensures.listed,
    )

pub returns-in_ok-record_read-in-Give-clause-after : goal.returns-in_ok-record_read-in-Give-clause-after
returns-in_ok-record_read-in-Give-clause-after c =
    let reader = rw (← c.self.view_is) at c.on_key-there.ensures.reader in
    let stood = rw (← c.self.view_is) at c.on_key-there.ensures.quars in
    let given : is_given c.read_verdict-verdict.result ≡ true = search rules in
    rw (given, ← c.self.view_is) (Leaves-read c.args.key (record { sid = c.args.sid; token = c.args.token; deadline = c.args.deadline }) c.args.now
    c.self.inside.leases c.record_read.new.leases c.self.inside.index c.read_verdict-verdict.result c.self.invariant.0 (c.read_verdict-verdict.ensures
    ∙ (λ i. verdict (holding_of c.args.sid c.args.now (reader i) (stood i)) read)) given c.in_ok-record_read-in-Give.ensures.ok)

pub invariant_of-self-in_err-record_read-in-Give : goal.invariant_of-self-in_err-record_read-in-Give
invariant_of-self-in_err-record_read-in-Give c = (
  IsKept-stays c.self.inside.leases c.record_read.new.leases c.self.inside.index c.self.invariant.0 c.in_err-record_read-in-Give.ensures.err,
  c.record_read.ensures.listed,
)
