use Rattle.std.proofs.Common.{◌≡◌, cond, refl, sym, ap, subst, ◌∙◌, All}
use Rattle.std.proofs.lemmas.Bool.{false≢true}
use Rattle.desk_book.specs.declared.forms.Form.TheVariants as form
use Rattle.desk_book.specs.Borne.{Holds, IsPresent}
use Rattle.desk_book.proofs.books.Book.commit_form.Goals as goal

apart : form.HeldAlone ≡ form.AsAsked → ⊥
apart e = cc

pub returns-then-holds_each : goal.returns-then-holds_each
returns-then-holds_each c =
    let all : All (Holds c.args.self.now.book) c.args.grants.now.items =
    subst (All (Holds c.args.self.now.book)) c.items.ensures (c.holds_each.ensures.0 c.if-holds_each.true) in
    let present : IsPresent c.args.self.now.book c.args.who = sym c.is_present.ensures ∙ c.if-is_present.true in
    λ txn. record { borne = (λ _. (present, all), λ _. refl); odd = λ no. absurd (no (present, all)) }

pub returns-else-holds_each : goal.returns-else-holds_each
returns-else-holds_each c =
    let present : IsPresent c.args.self.now.book c.args.who = sym c.is_present.ensures ∙ c.if-is_present.true in
    λ txn. record {
      borne = (
        λ e. absurd (apart e),
        λ b. absurd (false≢true (sym c.if-holds_each.false ∙ c.holds_each.ensures.1 (subst (All (Holds c.args.self.now.book)) (sym c.items.ensures) b.1))),
      );
      odd = λ no. sym (ap (λ b. cond b form.HeldAlone form.NotCommitted) present);
    }
