use Rattle.std.proofs.Common.{◌≡◌, true, sym, ◌∙◌, arith}
use Rattle.std.specs.Prelude.{nat_lt}
use Rattle.std.proofs.Math.Bool.{and-true}
use Rattle.std.proofs.lemmas.Bool.{lt-ltb}
use Rattle.sqlite_tables.specs.Lists.{tables_of}
use Rattle.sqlite_keeper.specs.Bonds.{are_two}
use Rattle.sqlite_keeper.proofs.BondLemmas.{may_invite}
use Rattle.sqlite_keeper.proofs.LeavesLemmas.{clean_before, same_lists}
use Rattle.sqlite_keeper.proofs.bonds.can_invite.Goals as goal

pub returns-clause-told : goal.returns-clause-told
returns-clause-told g c clean lists are =
    let early = clean_before g.S.Store c.are_two.new.tx.conn.now c.pairs_between.new.tx.conn.now c.pairs_between.ensures.leaves clean in
    let here = same_lists g.S.Store c.args.tx.now.conn.now c.are_two.new.tx.conn.now (λ k l r. c.in_ok-are_two.ensures.same k l r) early lists are in
    let two : are_two c.args.a c.args.b (tables_of lists) ≡ true = sym (c.in_ok-are_two.ensures.told early lists are) ∙ grind arith in
    let few : nat_lt c.args.links 1000000 ≡ true = lt-ltb c.args.links 1000000 (omega arith) in
    let there = c.in_ok-pairs_between.ensures.there clean lists here in
    let back = c.in_ok-pairs_between.ensures.back clean lists here in
    let free = rw (there, back) at c.are_free.ensures in
    rw (two, few) (free ∙ (may_invite c.args.a c.args.b lists ∙ sym (and-true _)))
