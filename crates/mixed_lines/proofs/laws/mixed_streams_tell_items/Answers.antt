use Rattle.mixed_lines.proofs.LawLemmas.{mixed_streams_tell}
use Rattle.mixed_lines.proofs.laws.mixed_streams_tell_items.Goals as goal

pub returns : goal.returns
returns c = mixed_streams_tell
