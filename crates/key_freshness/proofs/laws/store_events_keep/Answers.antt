use Rattle.key_freshness.proofs.StoreLemmas.{commits_keep, ends_keep}
use Rattle.key_freshness.proofs.laws.store_events_keep.Goals as goal

pub returns-clause-commits : goal.returns-clause-commits
returns-clause-commits c = commits_keep

pub returns-clause-ends : goal.returns-clause-ends
returns-clause-ends c = ends_keep
