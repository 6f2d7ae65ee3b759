use Rattle.std.proofs.Common.{None}
use Rattle.mc_text.proofs.plain_keys.PlainKey.of.Goals as goal

pub returns-in-None-clause-none : goal.returns-in-None-clause-none
returns-in-None-clause-none c = c.in-None.ensures.none None
