use Rattle.std.proofs.Common.{subst}
use Rattle.log_word.specs.Steps.{IsBeginning}
use Rattle.log_word.proofs.ViewLemmas.{beginning_trans}
use Rattle.bound_desk.specs.Bound.{BoundBookView}
use Rattle.bound_desk.proofs.bound_books.BoundBook.quarantine.Goals.{in-Some+in-Own-1, in-Some+in-Shared-1, in-None-1}
use Rattle.bound_desk.proofs.bound_books.BoundBook.quarantine.Goals as goal

pub returns-in-Err-clause-seen : goal.returns-in-Err-clause-seen
returns-in-Err-clause-seen g c = subst (λ (v : BoundBookView). IsBeginning v.seen c.see.new.self.seen) c.self.view_is (elim c.match-old-3.branch [
  | in-Some+in-Own-1 w ↦ beginning_trans _ _ _ c.make_quarantine.ensures.seen c.see.ensures.seen
  | in-Some+in-Shared-1 w ↦ beginning_trans _ _ _ c.make_quarantine.ensures.seen c.see.ensures.seen
  | in-None-1 w ↦ beginning_trans _ _ _ c.make_quarantine.ensures.seen c.see.ensures.seen
])
