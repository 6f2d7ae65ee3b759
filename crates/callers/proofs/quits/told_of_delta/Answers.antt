use Rattle.callers.proofs.quits.told_of_delta.Goals as goal

pub returns-in-Err-Shard : goal.returns-in-Err-Shard
returns-in-Err-Shard c = λ who key mode answered. c.told_of.ensures who key mode tt
