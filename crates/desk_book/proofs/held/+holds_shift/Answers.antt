use Rattle.std.proofs.Common.{◌≡◌, sym, ◌∙◌}
use Rattle.std.proofs.lemmas.Bool.{false≢true}
use Rattle.rows_model.specs.Delta.{delta_of}
use Rattle.desk_book.specs.Books.{Held}
use Rattle.desk_book.proofs.ListLemmas.{any_skip}
use Rattle.desk_book.proofs.held.+holds_shift.Goals as goal

pub returns-else-is_to_shift : goal.returns-else-is_to_shift
returns-else-is_to_shift t c =
    any_skip (λ (one : Held). (one.permit ≡ c.args.ticket.now) × (one.by ≡ delta_of c.args.ticket.now.key c.args.txn.now)) c.args.held.now c.one-item.result
    c.in-len1-up.len_at_least c.one-item.is (λ p. false≢true (sym c.if-is_to_shift.false ∙ c.is_to_shift.ensures.1 p))
    c.holds_shift.result c.holds_shift.ensures
