use Rattle.std.proofs.Common.{List, IsSome, sym, subst, ◌∙◌}
use Rattle.std.proofs.lemmas.List.Elements.{All-weaker}
use Rattle.log_word.specs.Passes.{PassView}
use Rattle.log_word.specs.Steps.{IsBeginning}
use Rattle.session_client.specs.Desks.{Exchange}
use Rattle.callers.specs.Desks.{Always, AreServed, IsRunning}
use Rattle.callers.proofs.DeskLemmas.{always_served, running_before, some_rows}
use Rattle.callers.proofs.desks.desks_served.Goals as goal

pub returns : goal.returns
returns g c =
    let opening = g.H.HubName.opening in
    let shards = g.H.BoundName.word.shards in
    let kept = c.into_parts-store.ensures.kept in
    let seen = kept.0 in
    let told = subst (λ r. IsSome r) c.into_parts-keeper.ensures.rows (g.met.K.Telling.always_tells c.into_parts-keeper.result.0 c.into_parts-keeper.ensures.started) in
    let run = kept.1.stopped ∙ some_rows c.into_parts-store.result.0.known_rows told in
    All-weaker (λ (pass : PassView). IsBeginning pass.seen seen)
    (λ (pass : PassView). (calls : List Exchange) → AreServed IsRunning opening shards calls pass.seen → AreServed Always opening shards calls pass.seen)
    (λ pass begins calls h. always_served opening shards calls pass.seen (running_before pass.seen seen begins run) h) c.args.passes.items kept.1.begun
