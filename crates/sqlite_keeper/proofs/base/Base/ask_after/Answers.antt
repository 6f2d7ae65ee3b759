use Rattle.std.proofs.Common.{◌≡◌, ◌∙◌, ap, subst}
use Rattle.rows_model.specs.Rows.{Tables}
use Rattle.sql_keeper.specs.Keepers.{AnswersAfter}
use Rattle.sqlite.specs.Held.{state}
use Rattle.sqlite_keeper.specs.Bases.{rows_in, seen_in}
use Rattle.sqlite_keeper.proofs.BaseLemmas.{all_clean, found_open, since_same, since_dropped}
use Rattle.sqlite_keeper.proofs.base.Base.ask_after.Goals as goal

pub invariant_of-self : goal.invariant_of-self
invariant_of-self g c never =
    let seen = seen_in g.S.Store c.self.inside.last.items in
    let found = c.find_open.new.conn in
    since_same g.S.Store c.self.inside.tally seen c.self.inside.conn found (c.self.invariant never) (c.find_open.ensures.same (all_clean g.S.Store never found))

pub invariant_of-self-2 : goal.invariant_of-self-2
invariant_of-self-2 g c never =
    let tally = c.self.inside.tally in
    let seen = seen_in g.S.Store c.self.inside.last.items in
    let found = c.find_open.new.conn in
    let begun = c.transaction-tx.result.conn.now in
    let mid = c.answer_after-value.new.tx.conn.now in
    let new = c.drop_changes.new.tx.0 in
    since_dropped g.S.Store never tally seen c.self.inside.conn found begun mid new
    (record {
      since = c.self.invariant never;
      same = c.find_open.ensures.same (all_clean g.S.Store never found);
      settled = c.in_default.ensures.settled (all_clean g.S.Store never found);
      begins = c.transaction-tx.ensures.begun;
    })
    c.answer_after-value.ensures.stays (c.drop_changes.ensures.dropped (all_clean g.S.Store never new))

pub returns-clause-tells : goal.returns-clause-tells
returns-clause-tells g c never =
    let tally = c.self.inside.tally in
    let seen = seen_in g.S.Store c.self.inside.last.items in
    let found = c.find_open.new.conn in
    let begun = c.transaction-tx.result.conn.now in
    let clean = all_clean g.S.Store never found in
    let b = found_open g.S.Store tally seen c.self.inside.conn found begun
    (record {
      since = c.self.invariant never;
      same = c.find_open.ensures.same clean;
      settled = c.in_default.ensures.settled clean;
      begins = c.transaction-tx.ensures.begun;
    }) (c.in_default.ensures.open clean) in
    let made = c.answer_after-value.ensures.told (all_clean g.S.Store never c.answer_after-value.new.tx.conn.now) b.counted in
    let was : rows_in (state g.S.Store begun).now ≡ c.args.self.now = ap rows_in b.now ∙ c.self.view_is in
    subst (λ (rows : Tables). AnswersAfter c.args.txn.now c.args.key.now rows c.answer_after-value.result) was made
