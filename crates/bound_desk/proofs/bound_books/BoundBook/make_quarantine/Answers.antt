use Rattle.std.proofs.Common.{IfOk, w32, to_z, of_z, is_some, subst}
use Rattle.std.proofs.lemmas.Int.{to_z-of_z}
use Rattle.key_shard.specs.Past.{entry}
use Rattle.key_shard.specs.Shards.{past_of}
use Rattle.session_client.specs.Belongs.{IsQuarantineOf}
use Rattle.session_client.proofs.QuarantineLemmas.{quarantine_belongs}
use Rattle.desk_book.proofs.ListLemmas.{ok_gives}
use Rattle.bound_desk.specs.Writing.{IsGrantAlone}
use Rattle.bound_desk.proofs.BoundLemmas.{book_goes_on}
use Rattle.bound_desk.proofs.GrantNotes.{answer_brings}
use Rattle.bound_desk.proofs.RecordLemmas.{none_is_left}
use Rattle.bound_desk.proofs.WriteLemmas.{quit_goes_on}
use Rattle.bound_desk.proofs.WritingLemmas.{answer_stood, ready_goes_on}
use Rattle.bound_desk.specs.Grants.{IsOldTold}
use Rattle.bound_desk.proofs.OldLemmas.{old_is_told}
use Rattle.bound_desk.proofs.bound_books.BoundBook.make_quarantine.Goals as goal

pub invariant_of-self : goal.invariant_of-self
invariant_of-self g c = (
  c.quarantine.ensures.word,
  book_goes_on g.H.HubName.opening g.H.BoundName.word.shards c.self.inside.book.book c.self.inside.pass.seen c.quarantine.new.pass.seen c.quarantine.ensures.seen c.self.invariant.1,
  ready_goes_on g.H.HubName.opening g.H.BoundName.before g.H.BoundName.word.shards c.self.inside.book.book c.self.inside.pass.seen c.quarantine.new.pass.seen c.quarantine.ensures.seen c.self.invariant.2,
  quit_goes_on c.self.inside.quit c.self.inside.pass.seen c.quarantine.new.pass.seen c.quarantine.ensures.seen c.self.invariant.3,
)

pub returns-clause-grant : goal.returns-clause-grant
returns-clause-grant g c =
    let a = c.args in
    let shard = a.shard.now.shard in
    answer_brings shard.terms (past_of shard) a.key a.who a.mode _ a.now g.H.BoundName.word.shards shard.terms.no c.quarantine.new.pass.seen
    (is_some (entry a.key (past_of c.quarantine.new.self.shard))) c.quarantine.result c.requires.place c.quarantine.ensures.shows c.quarantine.ensures.last

pub returns-clause-alone : goal.returns-clause-alone
returns-clause-alone g c =
    let a = c.args in
    let shard = a.shard.now.shard in
    subst (λ by. IfOk c.quarantine.result (IsGrantAlone g.H.HubName.opening g.H.BoundName.before g.H.BoundName.word.shards by c.quarantine.new.pass.seen)) (to_z-of_z w32 a.by c.ranges.by)
    (answer_stood g.H.HubName.opening g.H.BoundName.before g.H.BoundName.word.shards shard.terms (past_of shard) a.key a.who a.mode (to_z w32 (of_z w32 a.by)) a.now shard.terms.no c.quarantine.new.pass.seen
    (is_some (entry a.key (past_of c.quarantine.new.self.shard))) c.quarantine.result c.requires.place c.quarantine.ensures.shows c.quarantine.ensures.last c.quarantine.ensures.old)

pub returns-clause-belongs : goal.returns-clause-belongs
returns-clause-belongs g c =
    let a = c.args in
    let shard = a.shard.now.shard in
    let past = past_of shard in
    ok_gives _ (IsQuarantineOf a.who a.key a.mode) c.quarantine.result
    (λ answer shows. quarantine_belongs shard.terms past a.key a.who a.mode _ a.now answer shows) c.quarantine.ensures.shows

pub returns-clause-none_left : goal.returns-clause-none_left
returns-clause-none_left g c = none_is_left c.args.shard.now.shard c.args.key _ c.quarantine.result c.quarantine.ensures.refusal

pub returns-clause-told : goal.returns-clause-told
returns-clause-told g c =
    let a = c.args in
    let shard = a.shard.now.shard in
    subst (λ by. IfOk c.quarantine.result (IsOldTold g.H.BoundName.word.shards a.key a.who by a.mode c.quarantine.new.pass.seen)) (to_z-of_z w32 a.by c.ranges.by)
    (old_is_told shard c.quarantine.new.self.shard a.key a.who a.mode (to_z w32 (of_z w32 a.by)) a.now g.H.BoundName.word.shards shard.terms.no c.quarantine.new.pass.seen
    c.quarantine.result c.requires.place c.quarantine.ensures.step c.quarantine.ensures.shows c.quarantine.ensures.last)
