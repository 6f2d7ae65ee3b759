use Rattle.std.proofs.Common.{length, refl, sym, subst, ◌∙◌}
use Rattle.desk_book.specs.Apart.{put_back, HavePlaces}
use Rattle.desk_book.proofs.ApartLemmas.{IsJoined, places-left, places-pop, joined-more}
use Rattle.desk_book.proofs.apart.Apart.join.Goals as goal

pub loop-place-init : goal.loop-place-init
loop-place-init c =
    subst (λ l. IsJoined c.args.self c.args.grants l c.args.grants) (sym c.self.view_is)
    (record { back = refl; room = refl; places = places-left c.args.self c.args.grants c.requires })

pub put_back-requires-clause-place : goal.put_back-requires-clause-place
put_back-requires-clause-place c =
    (places-pop c.pop.new.self.items c.in-Some.field-0 (length c.loop-place.grants.items) c.loop-place.grants.room
    (subst (λ l. HavePlaces l (length c.loop-place.grants.items) c.loop-place.grants.room) c.in-Some.ensures.items c.loop-place.invariant.places)).within

pub put_back-requires-clause-room : goal.put_back-requires-clause-room
put_back-requires-clause-room c =
    (places-pop c.pop.new.self.items c.in-Some.field-0 (length c.loop-place.grants.items) c.loop-place.grants.room
    (subst (λ l. HavePlaces l (length c.loop-place.grants.items) c.loop-place.grants.room) c.in-Some.ensures.items c.loop-place.invariant.places)).vacant

pub loop-place-preserved : goal.loop-place-preserved
loop-place-preserved c =
    joined-more c.args.self c.args.grants c.loop-place.grants c.put_back.new.self c.pop.new.self.items c.in-Some.field-0 c.put_back.ensures.items
    c.put_back.ensures.room
    (subst (λ l. IsJoined c.args.self c.args.grants l c.loop-place.grants) c.in-Some.ensures.items c.loop-place.invariant)
