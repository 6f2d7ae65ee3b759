use Rattle.std.proofs.Common.{◌≡◌, true, false, rules, cond, subst}
use Rattle.lease_table.specs.declared.records.Lapse.{Lapse}
use Rattle.lease_table.specs.Lapses.{has_lapse, is_lapse}
use Rattle.lease_table.specs.Standing.{Stays}
use Rattle.lease_table.proofs.LapseLemmas.{AreListed-added, AreListed-again, AreListed-same, has_lapse-again, has_lapse-back, not-back, not-there, reads-stay}
use Rattle.lease_table.proofs.readers.record_read.Goals as goal

pub returns-then-added-clause-listed : goal.returns-then-added-clause-listed
returns-then-added-clause-listed c =
    let fresh = not-back (has_lapse c.of-lapse.result c.args.lapses.now) c.in_ok-added.added c.in_ok-added.ensures.added c.if-added.true in
    let stays : Stays c.args.leases.now c.put_read.new.leases = search rules in
    AreListed-same c.args.leases.now c.put_read.new.leases c.args.lapses.now c.forget.new.self c.requires.listed
    (has_lapse-back c.of-lapse.result c.args.lapses.now c.list.new.self c.forget.new.self fresh c.in_ok-added.ensures.ok c.forget.ensures)
    (reads-stay c.args.leases.now c.put_read.new.leases c.requires.ordered stays)

pub returns-else-added-clause-listed : goal.returns-else-added-clause-listed
returns-else-added-clause-listed c =
    let there = not-there (has_lapse c.of-lapse.result c.args.lapses.now) c.in_ok-added.added c.in_ok-added.ensures.added c.if-added.false in
    let stays : Stays c.args.leases.now c.put_read.new.leases = search rules in
    AreListed-same c.args.leases.now c.put_read.new.leases c.args.lapses.now c.list.new.self c.requires.listed
    (has_lapse-again c.of-lapse.result c.args.lapses.now c.list.new.self there c.in_ok-added.ensures.ok)
    (reads-stay c.args.leases.now c.put_read.new.leases c.requires.ordered stays)

pub returns-then-added-2-clause-listed : goal.returns-then-added-2-clause-listed
returns-then-added-2-clause-listed c =
    let old = c.args.lapses.now in
    let fresh = subst (λ (l : Lapse). has_lapse l old ≡ false) c.of-lapse.ensures
    (not-back (has_lapse c.of-lapse.result old) c.in_ok-added.added c.in_ok-added.ensures.added c.if-added-2.true) in
    let more = subst (λ (l : Lapse). (q : Lapse) → has_lapse q c.list.new.self ≡ cond (is_lapse l q) true (has_lapse q old)) c.of-lapse.ensures
    c.in_ok-added.ensures.ok in
    AreListed-added c.args.key c.args.leases.now c.args.was old c.requires.listed c.requires.was c.args.read c.put_read.new.leases
    c.list.new.self c.forget_reader.new.self (search rules) fresh more c.forget_reader.ensures

pub returns-else-added-2-clause-listed : goal.returns-else-added-2-clause-listed
returns-else-added-2-clause-listed c =
    let old = c.args.lapses.now in
    let there = subst (λ (l : Lapse). has_lapse l old ≡ true) c.of-lapse.ensures
    (not-there (has_lapse c.of-lapse.result old) c.in_ok-added.added c.in_ok-added.ensures.added c.if-added-2.false) in
    let more = subst (λ (l : Lapse). (q : Lapse) → has_lapse q c.list.new.self ≡ cond (is_lapse l q) true (has_lapse q old)) c.of-lapse.ensures
    c.in_ok-added.ensures.ok in
    AreListed-again c.args.key c.args.leases.now c.args.was old c.requires.listed c.requires.was c.args.read c.put_read.new.leases
    c.list.new.self (search rules) there more
