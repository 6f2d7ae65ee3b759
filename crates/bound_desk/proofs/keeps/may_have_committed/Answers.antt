use Rattle.std.proofs.Common.{◌∙◌, subst}
use Rattle.log_word.specs.Passes.{PassView}
use Rattle.log_word.specs.Steps.{IsBeginning}
use Rattle.bound_desk.proofs.WriteLemmas.{not_logged_yet}
use Rattle.bound_desk.proofs.keeps.may_have_committed.Goals as goal

pub returns-clause-shows : goal.returns-clause-shows
returns-clause-shows g c = λ telling.
    let late = c.may_have_committed.new.pass.seen in
    not_logged_yet c.args.pass.now.seen late c.args.who.number
    (subst (λ (p : PassView). IsBeginning p.seen late) (c.into_pass-other.ensures ∙ c.note.ensures.note) c.may_have_committed.ensures.seen)
    (c.may_have_committed.ensures.shows telling)
