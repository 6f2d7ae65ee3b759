-- What is stored under a lease is fresh for every hit later, against the most that is known.
use Rattle.std.proofs.Common.{ℕ, List, ◌∷◌, length, sym, subst}
use Rattle.rows_model.specs.Query as query
use Rattle.sql_keeper.specs.declared.stores.Commit.{Commit}
use Rattle.sql_keeper.specs.Log.{rows_after}
use Rattle.key_freshness.specs.Marks.{Mark, Wrote, marks_of}
use Rattle.key_freshness.specs.Known.{IsRuled}
use Rattle.key_freshness.specs.Held.{IsHeld}
use Rattle.key_freshness.specs.Laws.{RunningHitIsFresh}
use Rattle.key_freshness.proofs.KnownLemmas.{more-length}
use Rattle.key_freshness.proofs.RuleLemmas.{ruled-wrote}
use Rattle.key_freshness.proofs.MomentLemmas.{held_later, more_is_right, stored_is_held, stored_is_right}
use Rattle.key_freshness.proofs.HitLemmas.{hit_is_fresh}

pub running_hit_is_fresh : RunningHitIsFresh
running_hit_is_fresh key opening then_past past later then_known
    asked known later_known value since moment grants before more ruled right marked ends further ruled_later =
    let stamp = length asked.log in
    let answer : List Commit → List ℕ = λ log. query.answer key (rows_after opening log) in
    let marks : List Mark = Wrote stamp ∷ marks_of key past in
    let stored = stored_is_held key (marks_of key then_past) (marks_of key past) then_known asked known moment grants before more ruled in
    let wrote = ruled-wrote key known (marks_of key past) stamp (more-length more) ruled in
    let held = held_later key since marks known later_known stamp further wrote (subst (λ ms. IsRuled key ms later_known) marked ruled_later) ends stored in
    hit_is_fresh key opening later_known later value stamp
    (subst (λ ms. IsHeld key ms later_known stamp) (sym marked) held)
    (more_is_right answer known later_known value stamp further (more-length more) (stored_is_right answer asked known value more right))
