use Rattle.key_shard.proofs.shards.Shard.next_due.Goals as goal

pub returns : goal.returns
returns c = rw (← c.self.view_is) c.next_due.ensures
