use Rattle.std.proofs.Common.{All, List, take, arith}
use Rattle.std.proofs.lemmas.List.Elements.{All-push, All-weaker}
use Rattle.key_shard.specs.declared.steps.Step.{Step}
use Rattle.run_audit.specs.Answers.{Knows}
use Rattle.run_audit.specs.Findings.{histories_in}
use Rattle.run_audit.proofs.CoverLemmas.{histories-push, whole-at}
use Rattle.run_audit.proofs.KnownLemmas.{all-known}
use Rattle.run_audit.proofs.answers.opening_answers.Goals as goal

pub loop-shard-preserved : goal.loop-shard-preserved
loop-shard-preserved c =
    let shards = c.args.shards.now in
    let i = c.loop-shard.shard-index in
    let shard = c.shard-item.result in
    let old = c.loop-shard.answers in
    let new = c.note_hits.new.answers in
    let made = c.in_ok-note_hits.ensures in
    let whole = whole-at shards i shard (omega arith) c.shard-item.is c.requires in
    let before : All (λ (history : List Step). All (Knows new) history) (histories_in (take i shards)) =
    All-weaker (λ (history : List Step). All (Knows old) history) (λ (history : List Step). All (Knows new) history)
    (λ history known. all-known old new made.keeps history known) (histories_in (take i shards)) c.loop-shard.invariant.1 in (
      made.opening,
      rw (histories-push shards i shard (omega arith) c.shard-item.is)
          (All-push (λ (history : List Step). All (Knows new) history) (histories_in (take i shards)) shard.history before
          (rw (c.history.ensures.whole whole) at made.knows)),
    )
