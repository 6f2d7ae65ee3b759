use Rattle.key_freshness.proofs.WriteLemmas.{put_is_held, put_is_right, shift_is_right, written_before}
use Rattle.key_freshness.proofs.laws.writes_are_held.Goals as goal

pub returns-clause-held : goal.returns-clause-held
returns-clause-held c = put_is_held

pub returns-clause-put : goal.returns-clause-put
returns-clause-put c = put_is_right

pub returns-clause-shift : goal.returns-clause-shift
returns-clause-shift c = shift_is_right

pub returns-clause-before : goal.returns-clause-before
returns-clause-before c = written_before
