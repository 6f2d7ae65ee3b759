use Rattle.std.proofs.Common.{◌≤◌, refl, ap, arith}
use Rattle.entry_table.specs.Entries.{Table}
use Rattle.key_shard.proofs.KeptLemmas.{IsKept-new}
use Rattle.key_shard.proofs.shards.Shard.with.Goals as goal

pub invariant_of-result : goal.invariant_of-result
invariant_of-result c =
    let room = ap (λ (t : Table). t.room) c.in_ok-entries.ensures in
    let roomy : 1 ≤ c.in_ok-entries.entries.room = omega (arith, room, c.requires.roomy) in
    let list = ap (λ (t : Table). t.list) c.in_ok-entries.ensures in
    IsKept-new _ c.requires.one_of roomy list c.new-leases.ensures c.new-2.ensures c.new-3.ensures.steps refl refl c.new-3.ensures.used
