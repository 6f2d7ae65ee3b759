use Rattle.std.proofs.Common.{[], ◌∷◌, List, ℕ, arith, length-append}
use Rattle.std.specs.Option.{option_map}
use Rattle.session_client.proofs.TurnLemmas.{for_more}
use Rattle.session_client.proofs.quarantines.stage_after_answer.Goals as goal

pub returns-in-Granted-clause-room : goal.returns-in-Granted-clause-room
returns-in-Granted-clause-room c =
    let (who, mode, key, suits, answer) = c.requires.quarantine in
    let granted = rw c.in-Granted.is at answer in
    let (more, few, holds, long, asked) = c.requires.room in
    let items = length-append c.args.hand.now.grants.items (c.in-Granted.grant ∷ []) in
    let given = length-append c.args.hand.now.given (c.in-Granted.grant ∷ []) in
    let all = for_more c.args.next mode key c.args.hand.now.grants.items c.in-Granted.grant suits granted.0.in_mode asked in
    let values = length-append c.args.hand.now.values (option_map (λ (o : List ℕ × ℕ). o.0) c.in-Granted.old ∷ []) in
    let (same, beside, fits, roomy) = holds in
    let as_long = c.requires.as_long in
    rw c.add.ensures
    (c.stage_with.ensures.room _
    (omega (arith, items, given, same), omega (arith, values, given, beside), omega (arith, given, more, few, as_long), roomy)
    (omega (arith, given, few)) long all)
