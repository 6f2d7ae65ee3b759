use Rattle.std.proofs.Common.{◌≡◌, sym, ap, ◌∙◌}
use Rattle.std.specs.List.{list_all, list_any}
use Rattle.key_shard.specs.Permit.{Permit, same_permit}
use Rattle.desk_book.specs.Books.{Held, BookView}
use Rattle.desk_book.proofs.HeldLemmas.{all_tested}
use Rattle.desk_book.proofs.books.Book.holds_each.Goals as goal

pub returns : goal.returns
returns c =
    let e : c.holds_all.result ≡ list_all (λ (grant : Permit). list_any (λ (one : Held). same_permit one.permit grant) c.args.self.now.book.held) c.args.grants.now =
    c.holds_all.ensures
    ∙ ap (λ held. list_all (λ (grant : Permit). list_any (λ (one : Held). same_permit one.permit grant) held) c.args.grants.now)
    (c.as_slice.ensures.value ∙ ap (λ (b : BookView). b.book.held) c.self.view_is) in
    let tested = all_tested c.args.self.now.book.held c.args.grants.now in
    (λ t. tested.0 (sym e ∙ t), λ all. e ∙ tested.1 all)
