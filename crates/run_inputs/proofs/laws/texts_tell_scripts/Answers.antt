use Rattle.run_inputs.proofs.TellLemmas.{texts_tell}
use Rattle.run_inputs.proofs.laws.texts_tell_scripts.Goals as goal

pub returns : goal.returns
returns c = texts_tell
