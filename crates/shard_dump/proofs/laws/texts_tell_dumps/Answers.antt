use Rattle.shard_dump.proofs.LawLemmas.{texts_tell}
use Rattle.shard_dump.proofs.laws.texts_tell_dumps.Goals as goal

pub returns : goal.returns
returns c = texts_tell
