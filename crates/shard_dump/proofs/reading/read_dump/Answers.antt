use Rattle.shard_dump.proofs.LawLemmas.{gives_by}
use Rattle.shard_dump.proofs.reading.read_dump.Goals as goal

pub returns-clause-only : goal.returns-clause-only
returns-clause-only c dump says = gives_by c.args.text.now dump c.parts_of.result c.parts_of.ensures.found c.parts_of.ensures.bad says
