use Rattle.std.proofs.Common.{◌≡◌, ◌∷◌, [], List, ap, ◌∙◌}
use Rattle.key_shard.specs.declared.steps.Step.{Step}
use Rattle.key_shard.specs.Past.{Terms, evicts, next_token}
use Rattle.key_shard.specs.Shards.{past_of}
use Rattle.shard_dump.specs.Loads.{first_lease}
use Rattle.shard_dump.proofs.LoadLemmas.{past_gained, room_left}
use Rattle.shard_dump.proofs.loads.load_row.Goals as goal

pub store_on-requires-clause-room : goal.store_on-requires-clause-room
store_on-requires-clause-room c =
    let old = c.args.shard.now in
    let new = c.lease_on.new.shard in
    let key = c.args.row.key in
    let gained = c.in_ok-token.ensures.gained in
    let past : past_of new ≡ first_lease c.args.who c.args.now old key ∷ past_of old = past_gained (first_lease c.args.who c.args.now old key ∷ []) old new gained in
    ap (λ (t : Terms). evicts t key (past_of new)) gained.terms
    ∙ ap (λ (p : List Step). evicts old.terms key p) past
    ∙ room_left old.terms (past_of old) c.args.who c.args.now (next_token old.terms (past_of old)) key c.requires.blank.no_entry c.requires.roomy
