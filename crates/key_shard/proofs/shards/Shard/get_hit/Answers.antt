use Rattle.key_shard.proofs.shards.Shard.get_hit.Goals as goal

pub returns-clause-step : goal.returns-clause-step
returns-clause-step c now = rw (← c.self.view_is) (c.get_hit.ensures.step now)

pub returns-clause-shows : goal.returns-clause-shows
returns-clause-shows c now = rw (← c.self.view_is) (c.get_hit.ensures.shows now)
