use Rattle.std.proofs.Common.{◌≡◌, ◌<◌, inr, refl, sym, ap, ◌∙◌, arith}
use Rattle.plain_ops.specs.Steps.{PlainMap, new_item}
use Rattle.plain_ops.proofs.maps.Plain.store.Goals as goal

pub returns-then-not-has_room : goal.returns-then-not-has_room
returns-then-not-has_room c =
    let same : c.self.inside.table ≡ c.args.self.now.entries = ap (λ (map : PlainMap). map.entries) c.self.view_is in
    let next : c.self.inside.next ≡ c.args.self.now.next = ap (λ (map : PlainMap). map.next) c.self.view_is in
    let room = c.has_room.ensures (new_item c.args.self.now c.args.flags c.args.value.now) refl in
    let unspent : c.args.self.now.next < 18446744073709551615 = grind (arith, next) in
    inr ((unspent, sym (rw same at room) ∙ c.if-not-has_room.true), refl)

pub put-requires-clause-fit : goal.put-requires-clause-fit
put-requires-clause-fit c =
    let same : c.self.inside.table ≡ c.args.self.now.entries = ap (λ (map : PlainMap). map.entries) c.self.view_is in
    let room = c.has_room.ensures (new_item c.args.self.now c.args.flags c.args.value.now) refl in
    sym (rw same at room) ∙ c.if-not-has_room.false
