use Rattle.std.proofs.Common.{inl, inr}
use Rattle.session_client.proofs.HeardLemmas.{awaited_key}
use Rattle.session_client.proofs.writers.next_stage.Goals as goal

pub returns-in-Getting-clause-room : goal.returns-in-Getting-clause-room
returns-in-Getting-clause-room c = c.stage_after_get.ensures.room c.args.next c.args.keys.now c.args.hand.now (rw c.in-Getting.is at c.requires.room)

pub returns-in-Asking-clause-room : goal.returns-in-Asking-clause-room
returns-in-Asking-clause-room c = c.stage_after_staged.ensures.room c.args.next c.args.keys.now c.args.hand.now (rw c.in-Asking.is at c.requires.room)

pub returns-in-Ending-clause-room : goal.returns-in-Ending-clause-room
returns-in-Ending-clause-room c = c.stage_after_end.ensures.room c.args.next c.args.keys.now

pub returns-in-Returning-clause-room : goal.returns-in-Returning-clause-room
returns-in-Returning-clause-room c = c.stage_after_release.ensures.room c.args.next c.args.keys.now

pub returns-in-Raised-clause-room : goal.returns-in-Raised-clause-room
returns-in-Raised-clause-room c = c.stage_after_raise.ensures.room c.args.next c.args.keys.now

pub returns-in-Renewed-clause-room : goal.returns-in-Renewed-clause-room
returns-in-Renewed-clause-room c = c.stage_after_renewal.ensures.room c.args.next c.args.keys.now

pub returns-in-Staging : goal.returns-in-Staging
returns-in-Staging c =
    let (who, writing, keys, suits, awaits) = c.requires.awaits in
    absurd (elim c.in-Staging.is [
      | inl (key, txn, e) ↦ rw e at awaits
      | inr (inl (place, txn, e)) ↦ rw e at awaits
      | inr (inr (inl (place, txn, e))) ↦ rw e at awaits
      | inr (inr (inr (inl (txn, e)))) ↦ rw e at awaits
      | inr (inr (inr (inr (inl e)))) ↦ c.requires.apart e
      | inr (inr (inr (inr (inr (inl (ended, how, e)))))) ↦ rw e at awaits
      | inr (inr (inr (inr (inr (inr (ended, how, e)))))) ↦ rw e at awaits
    ])

pub stage_after_quarantine-requires-clause-quarantine : goal.stage_after_quarantine-requires-clause-quarantine
stage_after_quarantine-requires-clause-quarantine c =
    let (who, writing, keys, suits, awaits) = c.requires.awaits in
    let found = awaited_key who writing.mode writing.keys c.in-Quarantining.count c.args.reply (rw c.in-Quarantining.is at awaits) in
    (who, writing.mode, found.key, suits, found.awaits)
