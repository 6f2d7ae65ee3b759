use Rattle.std.proofs.Common.{◌+◌, ◌≤◌, refl, arith, vec_len, vec_capacity}
use Rattle.rows_model.specs.NearSteps.{IsGrown, HasBlockRoomAt}
use Rattle.rows_model.proofs.NearLemmas.{zip_at, zip_none, zip_right, on_ok}
use Rattle.rows_model.proofs.near.reserve_block.Goals as goal

pub returns-in-Some-clause-grown : goal.returns-in-Some-clause-grown
returns-in-Some-clause-grown c =
    let d = c.index-near-place.result in
    let at = c.in-Some.ensures.at in
    zip_at IsGrown c.args.near.now c.args.id c.in-Some.place d _ c.requires.ascend at.within (at.passes d)
    (record { id = refl; links = refl; room = omega arith; blocked = c.reserve.ensures.items; block_room = c.reserve.ensures.capacity })
    (λ y other. record { id = refl; links = refl; room = omega arith; blocked = refl; block_room = omega arith })

pub returns-in-Some-clause-room : goal.returns-in-Some-clause-room
returns-in-Some-clause-room c =
    let d = c.index-near-place.result in
    let at = c.in-Some.ensures.at in
    let n = c.reserve.new.self.ok.0 in
    on_ok c.reserve.result (λ (room : vec_len c.reserve.new.self + c.args.more ≤ vec_capacity c.reserve.new.self).
    zip_right (HasBlockRoomAt c.args.id c.args.more) c.args.near.now _
    (zip_at (λ one other. HasBlockRoomAt c.args.id c.args.more other) c.args.near.now c.args.id c.in-Some.place d _ c.requires.ascend at.within
    (at.passes d) (λ same. omega (arith, n, room)) (λ y other same. absurd (other same)))) c.reserve.ensures.ok

pub returns-in-None-clause-grown : goal.returns-in-None-clause-grown
returns-in-None-clause-grown c =
    zip_none IsGrown c.args.near.now c.args.id c.in-None.ensures.none (λ y other. record { id = refl; links = refl; room = omega arith; blocked = refl; block_room = omega arith })
