use Rattle.std.proofs.Common.{◌≡◌, ◌-◌, Some, length, take, drop, sym, ◌∙◌}
use Rattle.std.specs.Prelude.{IsTrue, ◌↔◌}
use Rattle.std.specs.List.{Any}
use Rattle.std.proofs.lemmas.Bool.{false≢true}
use Rattle.session_client.specs.Wants.{new_value}
use Rattle.desk_book.specs.Books.{Held}
use Rattle.desk_book.proofs.ListLemmas.{any_skip, ok_gives}
use Rattle.desk_book.proofs.held.+holds_old.Goals as goal

pub returns-else-branch : goal.returns-else-branch
returns-else-branch t c =
    let P : Held → Type 0 = λ one. (one.permit ≡ c.args.ticket.now) × (new_value c.args.ticket.now.key c.args.txn.now one.old ≡ Some c.args.value.now) in
    ok_gives (λ is. IsTrue is ↔ Any P (take (length c.args.held.now - 1) (drop 1 c.args.held.now))) (λ is. IsTrue is ↔ Any P c.args.held.now) c.holds_old.result
    (λ is h. any_skip P c.args.held.now c.one-item.result c.in-len1-up.len_at_least c.one-item.is
    (λ p. false≢true (sym c.if-branch.false ∙ c.in_ok-is_to_put-in-len1-up.ensures.1 p)) is h)
    c.holds_old.ensures
