use Rattle.mc_text.proofs.StreamLemmas.{streams_tell}
use Rattle.mc_text.proofs.laws.streams_tell_items.Goals as goal

pub returns : goal.returns
returns c = streams_tell
