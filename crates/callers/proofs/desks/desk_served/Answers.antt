use Rattle.callers.proofs.ServedLemmas.{served_calls}
use Rattle.callers.proofs.desks.desk_served.Goals as goal

pub returns-clause-served : goal.returns-clause-served
returns-clause-served g c =
    served_calls g.H.HubName.opening g.H.HubName.cap g.H.HubName.terms g.H.BoundName.before g.H.BoundName.word.shards
    c.args.desk.calls c.args.desk.book.book c.into_pass.result.seen c.into_pass.ensures.shown
