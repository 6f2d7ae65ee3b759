use Rattle.std.proofs.Common.{◌≡◌, ◌∙◌, ℕ, true, List, Result, Ok, Err, ap, sym, subst, arith}
use Rattle.rows_model.specs.declared.changes.Change.{Change}
use Rattle.rows_model.specs.Rows.{Tables}
use Rattle.rows_model.specs.Changes.{apply_from}
use Rattle.rows_model.proofs.ApplyLemmas.{apply_all_is}
use Rattle.sql_keeper.specs.Keepers.{IsRejectedAt}
use Rattle.sqlite.specs.Effect.{Database}
use Rattle.sqlite.specs.Held.{state}
use Rattle.sqlite_keeper.specs.Bases.{rows_in, seen_in}
use Rattle.sqlite_keeper.specs.Makes.{MakesFrom}
use Rattle.sqlite_keeper.proofs.BaseLemmas.{all_clean, found_open, since_same, since_dropped, after_kept, since_kept, seen_is, rejected_at}
use Rattle.sqlite_keeper.proofs.base.Base.commit.Goals as goal

pub invariant_of-self : goal.invariant_of-self
invariant_of-self g c never =
    let seen = seen_in g.S.Store c.self.inside.last.items in
    let found = c.find_open.new.conn in
    since_same g.S.Store c.self.inside.tally seen c.self.inside.conn found (c.self.invariant never) (c.find_open.ensures.same (all_clean g.S.Store never found))

pub invariant_of-self-in-Err-make_from : goal.invariant_of-self-in-Err-make_from
invariant_of-self-in-Err-make_from g c never =
    let tally = c.self.inside.tally in
    let seen = seen_in g.S.Store c.self.inside.last.items in
    let found = c.find_open.new.conn in
    let begun = c.transaction-tx.result.conn.now in
    let mid = c.make_from.new.tx.conn.now in
    let new = c.drop_changes.new.tx.0 in
    since_dropped g.S.Store never tally seen c.self.inside.conn found begun mid new
    (record {
      since = c.self.invariant never;
      same = c.find_open.ensures.same (all_clean g.S.Store never found);
      settled = c.in_default.ensures.settled (all_clean g.S.Store never found);
      begins = c.transaction-tx.ensures.begun;
    })
    c.make_from.ensures.stays (c.drop_changes.ensures.dropped (all_clean g.S.Store never new))

pub returns-in-Err-make_from : goal.returns-in-Err-make_from
returns-in-Err-make_from g c = record {
  tells = λ never.
      let tally = c.self.inside.tally in
      let seen = seen_in g.S.Store c.self.inside.last.items in
      let found = c.find_open.new.conn in
      let begun = c.transaction-tx.result.conn.now in
      let mid = c.make_from.new.tx.conn.now in
      let clean = all_clean g.S.Store never found in
      let b = found_open g.S.Store tally seen c.self.inside.conn found begun
      (record {
        since = c.self.invariant never;
        same = c.find_open.ensures.same clean;
        settled = c.in_default.ensures.settled clean;
        begins = c.transaction-tx.ensures.begun;
      }) (c.in_default.ensures.open clean) in
      let was = rows_in (state g.S.Store begun).now in
      let then = (state g.S.Store mid).now in
      let made : MakesFrom 0 c.args.txn.now was then (Err c.in-Err-make_from.fault) =
      subst (λ (changes : List Change). MakesFrom 0 changes was then (Err c.in-Err-make_from.fault)) c.changes.ensures.items
      (c.in-Err-make_from.ensures.made (all_clean g.S.Store never mid) b.counted) in
      let rejected = rejected_at c.args.txn.now was then c.in-Err-make_from.fault made in
      let is : was ≡ c.args.self.now = ap rows_in b.now ∙ c.self.view_is in
      (c.self.view_is, subst (λ (rows : Tables). IsRejectedAt c.args.txn.now rows c.in-Err-make_from.fault) is rejected);
}

pub invariant_of-self-in-Ok-keep_changes : goal.invariant_of-self-in-Ok-keep_changes
invariant_of-self-in-Ok-keep_changes g c never =
    let tally = c.self.inside.tally in
    let seen = seen_in g.S.Store c.self.inside.last.items in
    let found = c.find_open.new.conn in
    let begun = c.transaction-tx.result.conn.now in
    let mid = c.make_from.new.tx.conn.now in
    let new = c.keep_changes.new.tx.0 in
    let clean = all_clean g.S.Store never found in
    let b = found_open g.S.Store tally seen c.self.inside.conn found begun
    (record {
      since = c.self.invariant never;
      same = c.find_open.ensures.same clean;
      settled = c.in_default.ensures.settled clean;
      begins = c.transaction-tx.ensures.begun;
    }) (c.in_default.ensures.open clean) in
    let made = c.in-Ok.ensures.made (all_clean g.S.Store never mid) b.counted in
    let kept = c.in-Ok-keep_changes.ensures.kept (all_clean g.S.Store never new) in
    let a = after_kept g.S.Store tally c.in-Ok.after c.changes.result.now seen begun mid new b made kept in
    since_kept g.S.Store c.in-Ok.after c.new.result.items c.and-self-inside.result.items new c.new.ensures c.and-self-inside.ensures a.counted

pub returns-in-Ok-keep_changes : goal.returns-in-Ok-keep_changes
returns-in-Ok-keep_changes g c = record {
  tells = λ never.
      let tally = c.self.inside.tally in
      let seen = seen_in g.S.Store c.self.inside.last.items in
      let found = c.find_open.new.conn in
      let begun = c.transaction-tx.result.conn.now in
      let mid = c.make_from.new.tx.conn.now in
      let new = c.keep_changes.new.tx.0 in
      let clean = all_clean g.S.Store never found in
      let b = found_open g.S.Store tally seen c.self.inside.conn found begun
      (record {
        since = c.self.invariant never;
        same = c.find_open.ensures.same clean;
        settled = c.in_default.ensures.settled clean;
        begins = c.transaction-tx.ensures.begun;
      }) (c.in_default.ensures.open clean) in
      let made = c.in-Ok.ensures.made (all_clean g.S.Store never mid) b.counted in
      let kept = c.in-Ok-keep_changes.ensures.kept (all_clean g.S.Store never new) in
      let a = after_kept g.S.Store tally c.in-Ok.after c.changes.result.now seen begun mid new b made kept in
      let now : Tables = rows_in (state g.S.Store new).now in
      let led : apply_from 0 c.args.txn.now (rows_in seen) ≡ Ok now = subst (λ (changes : List Change). apply_from 0 changes (rows_in seen) ≡ Ok now) c.changes.ensures.items a.led in
      let from : apply_from 0 c.args.txn.now c.args.self.now ≡ Ok now = subst (λ (rows : Tables). apply_from 0 c.args.txn.now rows ≡ Ok now) c.self.view_is led in
      let is_same = seen_is g.S.Store c.new.result.items c.and-self-inside.result.items new c.new.ensures c.and-self-inside.ensures in
      apply_all_is c.args.txn.now c.args.self.now ∙ (from ∙ ap (λ (db : Database). (let r : Result Tables ℕ = Ok (rows_in db) in r)) (sym is_same));
}

pub invariant_of-self-in-Err-keep_changes : goal.invariant_of-self-in-Err-keep_changes
invariant_of-self-in-Err-keep_changes g c never =
    let tally = c.self.inside.tally in
    let seen = seen_in g.S.Store c.self.inside.last.items in
    let found = c.find_open.new.conn in
    let begun = c.transaction-tx.result.conn.now in
    let mid = c.make_from.new.tx.conn.now in
    let new = c.keep_changes.new.tx.0 in
    let ended : c.is_autocommit-ended.result ≡ true = grind (arith, c.is_autocommit-ended.ensures.value, c.keep_changes.ensures.ended) in
    since_dropped g.S.Store never tally seen c.self.inside.conn found begun mid new
    (record {
      since = c.self.invariant never;
      same = c.find_open.ensures.same (all_clean g.S.Store never found);
      settled = c.in_default.ensures.settled (all_clean g.S.Store never found);
      begins = c.transaction-tx.ensures.begun;
    })
    c.make_from.ensures.stays
    (record { kept = c.in-Err-keep_changes.ensures.refused (all_clean g.S.Store never new); now = c.is_autocommit-ended.ensures.settled ended })
