use Rattle.key_shard.proofs.EndLemmas.{Ends-keep, Ends-drop}
use Rattle.key_shard.proofs.releases.end_entry.Goals as goal

pub returns-in-Keep-clause-ends : goal.returns-in-Keep-clause-ends
returns-in-Keep-clause-ends c = rw c.in-Keep.is (Ends-keep c.args.key.now c.args.entries.now c.requires.sound)

pub returns-in-Drop-clause-ends : goal.returns-in-Drop-clause-ends
returns-in-Drop-clause-ends c =
    rw c.in-Drop.is (Ends-drop c.args.key.now c.args.entries.now c.drop_key.new.self c.drop_key.ensures.list c.drop_key.ensures.room c.drop_key.ensures.sound)
