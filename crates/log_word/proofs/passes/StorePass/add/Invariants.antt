use Rattle.log_word.proofs.passes.StorePass.add.Given as goal

abbrev pub ghosts-count : goal.ghosts-count
ghosts-count a = record { event = a.event.now }
