use Rattle.std.proofs.Common.{false}
use Rattle.callers.proofs.QuitLemmas.{wants-up}
use Rattle.callers.proofs.quits.wants_to_quit.Goals as goal

pub returns : goal.returns
returns c =
    let way = c.requires.under_way in
    wants-up c.args.session.now c.wants.result c.requires.quits way (c.wants.ensures.wanted false way.heard way.follows)
