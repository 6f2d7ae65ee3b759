use Rattle.std.proofs.Common.{◌≡◌, ◌<◌, Some, length, slice_get, sym, ap, subst, ◌∙◌, arith}
use Rattle.std.proofs.lemmas.Option.{same_Some, slice_get-get_or}
use Rattle.std.proofs.lemmas.List.Edits.{length-remove}
use Rattle.desk_book.specs.Apart.{is_held}
use Rattle.desk_book.proofs.ApartLemmas.{IsSetApart, apart-kept, apart-more}
use Rattle.desk_book.proofs.books.Book.set_apart.Goals as goal

pub loop-place-preserved-then-is_held : goal.loop-place-preserved-then-is_held
loop-place-preserved-then-is_held c =
    let less : c.loop-place.place < length c.items.result.now = omega (arith, c.loop-place-test.true, c.len-in-loop-place.ensures, ap length c.items.ensures) in (
      apart-kept (is_held c.args.self.now.book) c.args.grants c.loop-place.held c.loop-place.others.items c.loop-place.place c.index-items-place.result
          (ap (λ l. slice_get l c.loop-place.place) (sym c.items.ensures) ∙ slice_get-get_or c.items.result.now c.loop-place.place c.index-items-place.result less
          ∙ ap (λ g. Some g) (sym c.index-items-place.is))
          (sym c.is_held.ensures ∙ c.if-is_held.true) c.loop-place.invariant.0,
      c.loop-place.invariant.1,
    )

pub loop-place-smaller : goal.loop-place-smaller
loop-place-smaller c =
    let less : c.loop-place.place < length c.loop-place.held.items = omega (arith, c.loop-place-test.true, c.len-in-loop-place.ensures) in
    let shorter = ap length c.take-grant.ensures.items in
    let one = length-remove c.loop-place.held.items c.loop-place.place less in
    omega (arith, less, shorter, one)

pub loop-place-preserved : goal.loop-place-preserved
loop-place-preserved c =
    let less : c.loop-place.place < length c.items.result.now = omega (arith, c.loop-place-test.true, c.len-in-loop-place.ensures, ap length c.items.ensures) in
    let at : slice_get c.loop-place.held.items c.loop-place.place ≡ Some c.index-items-place.result =
    ap (λ l. slice_get l c.loop-place.place) (sym c.items.ensures)
    ∙ slice_get-get_or c.items.result.now c.loop-place.place c.index-items-place.result less ∙ ap (λ g. Some g) (sym c.index-items-place.is) in
    let same : c.take-grant.result ≡ c.index-items-place.result =
    same_Some c.take-grant.result c.index-items-place.result (sym c.take-grant.ensures.grant ∙ at) in
    let apart = ap (is_held c.args.self.now.book) same ∙ sym c.is_held.ensures ∙ c.if-is_held.false in (
      subst (λ l. IsSetApart (is_held c.args.self.now.book) c.args.grants c.take-grant.new.self l c.loop-place.place) (sym c.push_reserved.ensures.items)
          (apart-more (is_held c.args.self.now.book) c.args.grants c.loop-place.held c.take-grant.new.self c.loop-place.others.items c.loop-place.place c.take-grant.result
          c.take-grant.ensures.grant apart c.take-grant.ensures.items c.take-grant.ensures.room c.take-grant.ensures.vacant c.loop-place.invariant.0),
      omega (arith, c.push_reserved.ensures.capacity, c.loop-place.invariant.1),
    )
