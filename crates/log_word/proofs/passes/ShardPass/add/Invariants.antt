use Rattle.log_word.proofs.passes.ShardPass.add.Given as goal

abbrev pub ghosts-step : goal.ghosts-step
ghosts-step a = record { step = a.step.now }
