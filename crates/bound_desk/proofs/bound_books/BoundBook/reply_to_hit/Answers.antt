use Rattle.std.proofs.Common.{sym, subst}
use Rattle.session_client.specs.declared.replies.Reply.TheVariants as Reply
use Rattle.bound_desk.specs.Records.{ShowsFirst}
use Rattle.bound_desk.proofs.RecordLemmas.{got_is_first}
use Rattle.bound_desk.proofs.bound_books.BoundBook.reply_to_hit.Goals as goal

pub returns-in-Some-clause-first : goal.returns-in-Some-clause-first
returns-in-Some-clause-first g c =
    let last = c.in-Some.ensures.last in
    let terms = g.H.HubName.terms in
    let before = g.H.BoundName.before in
    let shards = g.H.BoundName.word.shards in
    subst (λ s. ShowsFirst terms before shards c.args.who (Reply.Got c.in-Some.got) s) (sym c.note_got.ensures.seen)
    (got_is_first terms before shards c.args.key c.args.who c.in-Some.got last.0 c.get_hit.new.self.seen last.1)
