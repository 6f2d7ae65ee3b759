use Rattle.std.proofs.Common.{is_some}
use Rattle.key_shard.specs.Past.{entry}
use Rattle.key_shard.specs.Shards.{is_out, past_of}
use Rattle.desk_book.proofs.ListLemmas.{ok_gives}
use Rattle.bound_desk.proofs.BoundLemmas.{book_goes_on}
use Rattle.bound_desk.proofs.RaiseLemmas.{answer_brought, IsBrought}
use Rattle.bound_desk.proofs.WriteLemmas.{quit_goes_on}
use Rattle.bound_desk.proofs.WritingLemmas.{ready_goes_on}
use Rattle.bound_desk.proofs.OldLemmas.{raise_is_told}
use Rattle.bound_desk.proofs.bound_books.BoundBook.make_raise.Goals as goal

pub invariant_of-self : goal.invariant_of-self
invariant_of-self g c = (
  c.raise.ensures.word,
  book_goes_on g.H.HubName.opening g.H.BoundName.word.shards c.self.inside.book.book c.self.inside.pass.seen c.raise.new.pass.seen c.raise.ensures.seen c.self.invariant.1,
  ready_goes_on g.H.HubName.opening g.H.BoundName.before g.H.BoundName.word.shards c.self.inside.book.book c.self.inside.pass.seen c.raise.new.pass.seen c.raise.ensures.seen c.self.invariant.2,
  quit_goes_on c.self.inside.quit c.self.inside.pass.seen c.raise.new.pass.seen c.raise.ensures.seen c.self.invariant.3,
)

pub returns-clause-last : goal.returns-clause-last
returns-clause-last g c =
    let a = c.args in
    let shard = a.shard.now.shard in
    let opening = g.H.HubName.opening in
    let before = g.H.BoundName.before in
    let shards = g.H.BoundName.word.shards in
    let seen = c.raise.new.pass.seen in
    ok_gives (IsBrought opening before shards a.grant (entry a.grant.key (past_of shard)) seen) _ c.raise.result (λ answer it. it.last)
    (answer_brought opening before shards (is_out shard a.grant) (past_of shard) a.grant shard.terms.no seen (is_some (entry a.grant.key (past_of c.raise.new.self.shard))) c.raise.result
    c.requires.place c.raise.ensures.shows c.raise.ensures.last c.raise.ensures.old (λ e. (c.raise.ensures.unknown e).1))

pub returns-clause-old : goal.returns-clause-old
returns-clause-old g c =
    let a = c.args in
    let shard = a.shard.now.shard in
    let opening = g.H.HubName.opening in
    let before = g.H.BoundName.before in
    let shards = g.H.BoundName.word.shards in
    let seen = c.raise.new.pass.seen in
    ok_gives (IsBrought opening before shards a.grant (entry a.grant.key (past_of shard)) seen) _ c.raise.result (λ answer it. it.held)
    (answer_brought opening before shards (is_out shard a.grant) (past_of shard) a.grant shard.terms.no seen (is_some (entry a.grant.key (past_of c.raise.new.self.shard))) c.raise.result
    c.requires.place c.raise.ensures.shows c.raise.ensures.last c.raise.ensures.old (λ e. (c.raise.ensures.unknown e).1))

pub returns-clause-brings : goal.returns-clause-brings
returns-clause-brings g c =
    let a = c.args in
    let shard = a.shard.now.shard in
    let opening = g.H.HubName.opening in
    let before = g.H.BoundName.before in
    let shards = g.H.BoundName.word.shards in
    let seen = c.raise.new.pass.seen in
    ok_gives (IsBrought opening before shards a.grant (entry a.grant.key (past_of shard)) seen) _ c.raise.result (λ answer it. it.brings)
    (answer_brought opening before shards (is_out shard a.grant) (past_of shard) a.grant shard.terms.no seen (is_some (entry a.grant.key (past_of c.raise.new.self.shard))) c.raise.result
    c.requires.place c.raise.ensures.shows c.raise.ensures.last c.raise.ensures.old (λ e. (c.raise.ensures.unknown e).1))

pub returns-clause-alone : goal.returns-clause-alone
returns-clause-alone g c =
    let a = c.args in
    let shard = a.shard.now.shard in
    let opening = g.H.HubName.opening in
    let before = g.H.BoundName.before in
    let shards = g.H.BoundName.word.shards in
    let seen = c.raise.new.pass.seen in
    ok_gives (IsBrought opening before shards a.grant (entry a.grant.key (past_of shard)) seen) _ c.raise.result (λ answer it. it.alone)
    (answer_brought opening before shards (is_out shard a.grant) (past_of shard) a.grant shard.terms.no seen (is_some (entry a.grant.key (past_of c.raise.new.self.shard))) c.raise.result
    c.requires.place c.raise.ensures.shows c.raise.ensures.last c.raise.ensures.old (λ e. (c.raise.ensures.unknown e).1))

pub returns-clause-belongs : goal.returns-clause-belongs
returns-clause-belongs g c =
    let a = c.args in
    let shard = a.shard.now.shard in
    let opening = g.H.HubName.opening in
    let before = g.H.BoundName.before in
    let shards = g.H.BoundName.word.shards in
    let seen = c.raise.new.pass.seen in
    ok_gives (IsBrought opening before shards a.grant (entry a.grant.key (past_of shard)) seen) _ c.raise.result (λ answer it. it.belongs)
    (answer_brought opening before shards (is_out shard a.grant) (past_of shard) a.grant shard.terms.no seen (is_some (entry a.grant.key (past_of c.raise.new.self.shard))) c.raise.result
    c.requires.place c.raise.ensures.shows c.raise.ensures.last c.raise.ensures.old (λ e. (c.raise.ensures.unknown e).1))

pub returns-clause-told : goal.returns-clause-told
returns-clause-told g c =
    let a = c.args in
    let shard = a.shard.now.shard in
    raise_is_told (is_out shard a.grant) shard c.raise.new.self.shard a.grant g.H.BoundName.word.shards shard.terms.no c.raise.new.pass.seen c.raise.result
    c.requires.place c.raise.ensures.out c.raise.ensures.shows c.raise.ensures.last (λ e. (c.raise.ensures.unknown e).1)
