use Rattle.std.proofs.Common.{◌≡◌, take}
use Rattle.session_client.specs.Writers.{all_renewed}
use Rattle.session_client.proofs.hands.refresh_all.Given as goal

abbrev pub invariant-loop-i : goal.invariant-loop-i
invariant-loop-i l = l.values ≡ all_renewed l.txn (take l.i l.notes) l.fn.values
