use Rattle.std.proofs.Common.{sym, ap, ◌∙◌}
use Rattle.desk_book.specs.Made.{made_in}
use Rattle.desk_book.proofs.forms.Form.make.Goals as goal

pub returns-in-VoidSet : goal.returns-in-VoidSet
returns-in-VoidSet c = c.void_set.ensures c.args.who ∙ ap (λ f. made_in f c.args.who c.args.request) (sym c.in-VoidSet.is)

pub returns-in-NoValue : goal.returns-in-NoValue
returns-in-NoValue c = c.put_nothing.ensures c.args.who ∙ ap (λ f. made_in f c.args.who c.args.request) (sym c.in-NoValue.is)

pub returns-in-DropOnly : goal.returns-in-DropOnly
returns-in-DropOnly c = c.drop_only.ensures c.args.who ∙ ap (λ f. made_in f c.args.who c.args.request) (sym c.in-DropOnly.is)

pub returns-in-Shared : goal.returns-in-Shared
returns-in-Shared c = c.share.ensures c.args.who ∙ ap (λ f. made_in f c.args.who c.args.request) (sym c.in-Shared.is)

pub returns-in-NotCommitted : goal.returns-in-NotCommitted
returns-in-NotCommitted c = c.commit_nothing.ensures c.args.who ∙ ap (λ f. made_in f c.args.who c.args.request) (sym c.in-NotCommitted.is)
