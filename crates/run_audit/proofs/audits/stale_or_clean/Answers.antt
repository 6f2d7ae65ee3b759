use Rattle.std.proofs.Common.{All, List, reverse, arith}
use Rattle.std.proofs.lemmas.List.{take_all}
use Rattle.std.proofs.lemmas.Option.{MatchOption-at_some, MatchOption-at_none}
use Rattle.key_shard.specs.declared.steps.Step.{Step}
use Rattle.sql_keeper.specs.Fresh.{IsFreshPast}
use Rattle.run_audit.specs.Answers.{Knows}
use Rattle.run_audit.specs.Findings.{IsFirstStaleIn}
use Rattle.run_audit.proofs.CoverLemmas.{whole-at}
use Rattle.run_audit.proofs.StaleLemmas.{history-all, histories-more, stale-in}
use Rattle.run_audit.proofs.audits.stale_or_clean.Goals as goal

pub first_stale-requires : goal.first_stale-requires
first_stale-requires c =
    let whole = whole-at c.args.shards.now c.loop-no.no c.index-shards-no.result (omega arith) c.index-shards-no.is c.requires.whole in
    rw (c.history.ensures.whole whole)
    (history-all (λ (history : List Step). All (Knows c.args.notes.now.answers) history) c.args.shards.now c.loop-no.no c.index-shards-no.result
    (omega arith) c.index-shards-no.is c.requires.knows)

pub returns-in-Some : goal.returns-in-Some
returns-in-Some c = λ opening log are.
    let history = c.history.result.now in
    let found : IsFirstStaleIn opening log history c.in-Some.place =
    MatchOption-at_some (IsFreshPast opening log (reverse history))
    (IsFirstStaleIn opening log history) c.in-Some.place c.in-Some.is (c.in_ok-place.ensures opening log are) in
    let whole = whole-at c.args.shards.now c.loop-no.no c.index-shards-no.result (omega arith) c.index-shards-no.is c.requires.whole in
    stale-in opening log c.args.shards.now c.loop-no.no c.in-Some.place c.index-shards-no.result (omega arith) c.index-shards-no.is
    (rw (c.history.ensures.whole whole) at found) (c.loop-no.invariant opening log are)

pub loop-no-preserved : goal.loop-no-preserved
loop-no-preserved c = λ opening log are.
    let history = c.history.result.now in
    let fresh : IsFreshPast opening log (reverse history) =
    MatchOption-at_none (IsFreshPast opening log (reverse history))
    (IsFirstStaleIn opening log history) c.in_default.is (c.in_ok-place.ensures opening log are) in
    let whole = whole-at c.args.shards.now c.loop-no.no c.index-shards-no.result (omega arith) c.index-shards-no.is c.requires.whole in
    histories-more opening log c.args.shards.now c.loop-no.no c.index-shards-no.result (omega arith) c.index-shards-no.is
    (rw (c.history.ensures.whole whole) at fresh) (c.loop-no.invariant opening log are)

pub returns : goal.returns
returns c = λ opening log are.
    let before = c.loop-no.invariant opening log are in
    rw (take_all c.loop-no.no c.args.shards.now (omega arith)) at before
