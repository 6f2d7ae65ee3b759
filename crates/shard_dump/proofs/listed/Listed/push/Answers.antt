use Rattle.std.proofs.Common.{◌≡◌, ap, ◌∙◌, ◌++◌, ◌∷◌, [], List}
use Rattle.shard_dump.specs.declared.rows.DumpRow.{DumpRow}
use Rattle.shard_dump.proofs.ReadLemmas.{keys_more}
use Rattle.shard_dump.proofs.listed.Listed.push.Goals as goal

pub invariant_of-self-2 : goal.invariant_of-self-2
invariant_of-self-2 c =
    keys_more c.self.inside.rows.items c.push_reserved.new.self.items c.args.row c.self.inside.keys c.insert.new.self c.self.invariant c.in_ok-insert.ensures.updates.0
    (c.push_reserved.ensures.items ∙ ap (λ (rows : List DumpRow). rows ++ c.args.row ∷ []) c.in_ok-reserve.ensures.items)
