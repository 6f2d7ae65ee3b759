use Rattle.std.proofs.Common.{◌≡◌, Option, Some, None, length, slice_get, refl, sym, ap, ◌∙◌}
use Rattle.std.specs.Option.{option_map}
use Rattle.std.proofs.lemmas.Option.{slice_get_read}
use Rattle.rows_model.specs.declared.keys.QKey.{QKey}
use Rattle.lease_table.specs.declared.records.Mode.{Mode}
use Rattle.key_shard.specs.Permit.{Permit}
use Rattle.conn_server.specs.Clients.{grant_on}
use Rattle.conn_server.specs.Refusals.{key_word, grant_for}
use Rattle.conn_server.proofs.GrantLemmas.{found_at, none_held}
use Rattle.conn_server.proofs.clients.Client.mode_for.Goals as goal

pub returns-in_err-place : goal.returns-in_err-place
returns-in_err-place c =
    let grants = c.args.self.now.grants.items in
    let word : key_word c.args.said.now ≡ Some (Some c.in_ok-key.key) =
    sym c.key_word.ensures ∙ c.in_ok-key_word.was ∙ ap (λ (key : Option QKey). Some key) c.in_ok-key.was in
    let none : grant_on c.in_ok-key.key grants ≡ None = none_held c.in_ok-key.key grants (sym c.place_on.ensures ∙ c.in_err-place.was) in
    c.from_residual-in_err-place.ensures
    ∙ sym (ap (λ (w : Option (Option QKey)). option_map (λ (grant : Permit). grant.mode) (grant_for grants w)) word
    ∙ ap (λ (found : Option Permit). option_map (λ (grant : Permit). grant.mode) found) none)

pub returns : goal.returns
returns c =
    let grants = c.self.inside.grants.items in
    let word : key_word c.args.said.now ≡ Some (Some c.in_ok-key.key) =
    sym c.key_word.ensures ∙ c.in_ok-key_word.was ∙ ap (λ (key : Option QKey). Some key) c.in_ok-key.was in
    let found = rw (← c.self.view_is) at c.place_on.ensures in
    let at = found_at c.in_ok-key.key grants c.in_ok-place.place c.index-items-place.result (sym found ∙ c.in_ok-place.was) in
    let read : slice_get grants c.in_ok-place.place ≡ Some c.index-items-place.result =
    slice_get_read grants (length grants) c.in_ok-place.place c.index-items-place.result refl at.within (rw c.items.ensures at c.index-items-place.is) in
    let here : grant_on c.in_ok-key.key grants ≡ Some c.index-items-place.result = sym at.grant ∙ read in
    rw (← c.self.view_is) (ap (λ (mode : Mode). Some mode) c.mode.ensures
    ∙ sym (ap (λ (w : Option (Option QKey)). option_map (λ (grant : Permit). grant.mode) (grant_for grants w)) word
    ∙ ap (λ (o : Option Permit). option_map (λ (grant : Permit). grant.mode) o) here))
