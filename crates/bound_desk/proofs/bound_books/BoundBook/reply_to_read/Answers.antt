use Rattle.lease_table.specs.declared.records.Mode.TheVariants.{Refresh}
use Rattle.bound_desk.proofs.RecordLemmas.{quarantine_is_first}
use Rattle.bound_desk.proofs.bound_books.BoundBook.reply_to_read.Goals as goal

pub returns-in-Ok-clause-first : goal.returns-in-Ok-clause-first
returns-in-Ok-clause-first g c =
    let last = c.in-Ok.ensures.last in
    quarantine_is_first g.H.HubName.terms g.H.BoundName.before g.H.BoundName.word.shards c.args.key c.args.who Refresh _ c.in-Ok.answer last.0 c.quarantine.new.self.seen last.1
