use Rattle.std.proofs.Common.{rules}
use Rattle.std.proofs.lemmas.List.Sorted.{answers_always}
use Rattle.rows_model.proofs.NearLemmas.{place_found, place_none}
use Rattle.rows_model.proofs.near.member_place.Goals as goal

pub returns-clause-at : goal.returns-clause-at
returns-clause-at c =
    let facts = c.binary_search_by_key.ensures in
    let by_key = facts.position (λ m. m.id) (answers_always _ _ _ (λ f a r g called. search rules)) in
    rw c.ok.ensures.value (place_found (λ m. m.id) c.args.members.now c.args.id c.binary_search_by_key.result facts.bound by_key)

pub returns-clause-none : goal.returns-clause-none
returns-clause-none c =
    let facts = c.binary_search_by_key.ensures in
    let by_key = facts.position (λ m. m.id) (answers_always _ _ _ (λ f a r g called. search rules)) in
    rw c.ok.ensures.value (place_none (λ m. m.id) c.args.members.now c.args.id c.binary_search_by_key.result c.requires.ascend by_key)
