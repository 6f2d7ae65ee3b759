use Rattle.mixed_lines.proofs.ReadLemmas.{lookup_stands}
use Rattle.mixed_lines.proofs.lookups.lookup_first.Goals as goal

pub returns-clause-stands : goal.returns-clause-stands
returns-clause-stands c =
    lookup_stands c.args.stream.now c.in_ok-said.said c.in_ok-said.taken c.in_ok-said.ensures.stands c.in_ok-said.ensures.looks_up
