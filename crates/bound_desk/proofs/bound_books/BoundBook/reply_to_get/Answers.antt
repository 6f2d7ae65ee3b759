use Rattle.bound_desk.proofs.RecordLemmas.{got_is_first}
use Rattle.bound_desk.proofs.bound_books.BoundBook.reply_to_get.Goals as goal

pub returns-in-Ok-clause-first : goal.returns-in-Ok-clause-first
returns-in-Ok-clause-first g c =
    let last = c.in-Ok.ensures.last in
    got_is_first g.H.HubName.terms g.H.BoundName.before g.H.BoundName.word.shards c.args.key c.args.who c.in-Ok.got last.0 c.get.new.self.seen last.1
