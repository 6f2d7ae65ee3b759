use Rattle.log_word.proofs.LawLemmas.{commits_granted}
use Rattle.log_word.proofs.laws.commits_were_granted.Goals as goal

pub returns : goal.returns
returns c = commits_granted
