use Rattle.log_word.proofs.LawLemmas.{grants_begun, releases_over, stamps_committed}
use Rattle.log_word.proofs.laws.steps_are_borne_out.Goals as goal

pub returns-clause-grants : goal.returns-clause-grants
returns-clause-grants c = grants_begun

pub returns-clause-releases : goal.returns-clause-releases
returns-clause-releases c = releases_over

pub returns-clause-stamps : goal.returns-clause-stamps
returns-clause-stamps c = stamps_committed
