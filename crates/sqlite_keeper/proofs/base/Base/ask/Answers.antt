use Rattle.std.proofs.Common.{◌≡◌, ◌∙◌, IfOk, ap, subst}
use Rattle.rows_model.specs.Rows.{Tables}
use Rattle.rows_model.specs.Query.{answer}
use Rattle.sqlite.specs.Held.{state}
use Rattle.sqlite_tables.specs.Lists.{lists_of}
use Rattle.sqlite_keeper.specs.Bases.{rows_in, seen_in}
use Rattle.sqlite_keeper.proofs.BaseLemmas.{all_clean, found_open, since_same, since_dropped}
use Rattle.sqlite_keeper.proofs.LeavesLemmas.{stays_of}
use Rattle.sqlite_keeper.proofs.base.Base.ask.Goals as goal

pub invariant_of-self : goal.invariant_of-self
invariant_of-self g c never =
    let seen = seen_in g.S.Store c.self.inside.last.items in
    let found = c.find_open.new.conn in
    since_same g.S.Store c.self.inside.tally seen c.self.inside.conn found (c.self.invariant never) (c.find_open.ensures.same (all_clean g.S.Store never found))

pub invariant_of-self-2 : goal.invariant_of-self-2
invariant_of-self-2 g c never =
    let tally = c.self.inside.tally in
    let seen = seen_in g.S.Store c.self.inside.last.items in
    let found = c.find_open.new.conn in
    let begun = c.transaction-tx.result.conn.now in
    let mid = c.answer-value.new.tx.conn.now in
    let new = c.drop_changes.new.tx.0 in
    since_dropped g.S.Store never tally seen c.self.inside.conn found begun mid new
    (record {
      since = c.self.invariant never;
      same = c.find_open.ensures.same (all_clean g.S.Store never found);
      settled = c.in_ok-find_open.ensures.settled (all_clean g.S.Store never found);
      begins = c.transaction-tx.ensures.begun;
    })
    (stays_of g.S.Store tally begun mid c.answer-value.ensures.leaves) (c.drop_changes.ensures.dropped (all_clean g.S.Store never new))

pub returns-clause-tells : goal.returns-clause-tells
returns-clause-tells g c never =
    let tally = c.self.inside.tally in
    let seen = seen_in g.S.Store c.self.inside.last.items in
    let found = c.find_open.new.conn in
    let begun = c.transaction-tx.result.conn.now in
    let clean = all_clean g.S.Store never found in
    let b = found_open g.S.Store tally seen c.self.inside.conn found begun
    (record {
      since = c.self.invariant never;
      same = c.find_open.ensures.same clean;
      settled = c.in_ok-find_open.ensures.settled clean;
      begins = c.transaction-tx.ensures.begun;
    }) (c.in_ok-find_open.ensures.open clean) in
    let made = c.answer-value.ensures.told (all_clean g.S.Store never c.answer-value.new.tx.conn.now) (lists_of (state g.S.Store begun).now) b.counted.lists b.counted.fit in
    let was : rows_in (state g.S.Store begun).now ≡ c.args.self.now = ap rows_in b.now ∙ c.self.view_is in
    subst (λ (rows : Tables). IfOk c.answer-value.result (λ value. value ≡ answer c.args.key.now rows)) was made
