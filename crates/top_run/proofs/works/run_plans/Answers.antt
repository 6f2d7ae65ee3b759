use Rattle.std.proofs.Common.{◌≡◌, All, List, Vec, Global, length, map, ap, sym, subst, ◌∙◌}
use Rattle.std.proofs.lemmas.Result.{IfOk-weaker}
use Rattle.key_shard.specs.Shards.{ShardView}
use Rattle.shard_lock.specs.Names.{AreLegal}
use Rattle.sql_keeper.specs.Fresh.{Fresh}
use Rattle.sql_keeper.specs.Stores.{StoreView}
use Rattle.run_audit.specs.Findings.{histories_in}
use Rattle.session_client.specs.declared.plans.Plan.{Plan}
use Rattle.top_run.specs.Ready.{HaveWorked}
use Rattle.top_run.specs.Warming.{GoesOn, HaveRunSince, AreRight, since_in}
use Rattle.top_run.proofs.SessionLemmas.{have_run}
use Rattle.top_run.proofs.LeftLemmas.{left_fresh, left_covered, left_goes_on, new_fresh, new_goes_on}
use Rattle.top_run.proofs.WarmLemmas.{answers_kept, left_right, new_right, none_moved}
use Rattle.top_run.proofs.works.run_plans.Goals as goal

pub returns-in-Ok-clause-fresh : goal.returns-in-Ok-clause-fresh
returns-in-Ok-clause-fresh g c = λ some.
    let left = c.into_parts-store.ensures.kept in
    left_fresh g.H.HubName.opening g.H.BoundName.before c.requires.loads_before c.into_parts-store.result.0 left.0 c.into_parts-store.result.1.items left.2 some

pub returns-in-Ok-clause-covered : goal.returns-in-Ok-clause-covered
returns-in-Ok-clause-covered g c =
    let left = c.into_parts-store.ensures.kept in
    left_covered g.H.HubName.opening g.H.BoundName.before c.requires.loads_before c.into_parts-store.result.0 left.0
    g.H.HubName.terms c.into_parts-store.result.1.items c.into_parts-store.ensures.all left.2

pub returns-in-Err-clause-fresh : goal.returns-in-Err-clause-fresh
returns-in-Err-clause-fresh g c = λ some.
    subst (λ (shards : List ShardView). Fresh g.H.HubName.opening c.in-Err.store.ledger.log (histories_in shards)) (sym c.in-Err.ensures.1)
    (new_fresh g.H.HubName.opening _ g.H.BoundName.before _ c.in-Err.store.ledger.log c.args.parts.shards.items c.requires.loads_before c.requires.parts.new)

pub returns-in-Ok-clause-ran : goal.returns-in-Ok-clause-ran
returns-in-Ok-clause-ran g c =
    let left = c.into_parts-store.ensures.kept in
    let shards = c.into_parts-store.result.1.items in
    let plans = map (λ (list : Vec Plan Global). list.items) c.args.plans.now in
    let hub = c.into_parts-store.ensures.as_many in
    let made = c.in-Ok.ensures.0 in
    let many : g.H.BoundName.word.shards ≡ length shards = c.requires.parts.of_shards ∙ sym made ∙ sym hub in
    IfOk-weaker c.run_over-transcripts.result.0
    (λ transcripts. HaveWorked g.H.HubName.terms g.H.BoundName.before g.H.BoundName.word.shards plans transcripts.items c.run_over-transcripts.result.1.items)
    (λ transcripts. HaveRunSince plans (histories_in shards) (since_in g.H.BoundName.before shards) transcripts.items)
    (λ transcripts worked. have_run g.H.HubName.opening g.H.HubName.terms g.H.BoundName.before c.requires.from_one c.into_parts-store.result.0 left.0 shards
    c.into_parts-store.ensures.all left.2 left.1.sound.in_order plans transcripts.items c.run_over-transcripts.result.1.items c.requires.ask left.1.begun
    (subst (λ n. HaveWorked g.H.HubName.terms g.H.BoundName.before n plans transcripts.items c.run_over-transcripts.result.1.items) many worked))
    c.run_over-transcripts.ensures.worked

pub returns-in-Ok-clause-goes_on : goal.returns-in-Ok-clause-goes_on
returns-in-Ok-clause-goes_on g c =
    let left = c.into_parts-store.ensures.kept in
    left_goes_on g.H.HubName.opening g.H.BoundName.before c.into_parts-store.result.0 left.0 c.into_parts-store.result.1.items left.2

pub returns-in-Err-clause-goes_on : goal.returns-in-Err-clause-goes_on
returns-in-Err-clause-goes_on g c =
    subst (All (GoesOn g.H.BoundName.before)) (sym c.in-Err.ensures.1)
    (new_goes_on g.H.HubName.opening g.H.BoundName.before _ c.args.parts.shards.items c.requires.parts.new)

pub returns-in-Ok-clause-right : goal.returns-in-Ok-clause-right
returns-in-Ok-clause-right g c = λ some.
    let left = c.into_parts-store.ensures.kept in
    left_right g.H.HubName.opening g.H.BoundName.before c.into_parts-store.result.0 left.0 c.into_parts-store.result.1.items left.2 some
    (c.into_parts-store.ensures.true_log some)

pub returns-in-Err-clause-right : goal.returns-in-Err-clause-right
returns-in-Err-clause-right g c = λ some.
    subst (AreRight g.H.HubName.opening c.in-Err.store.ledger.log) (sym c.in-Err.ensures.1)
    (new_right g.H.HubName.opening g.H.BoundName.before c.in-Err.store c.args.store c.args.parts.shards.items _ _ c.in-Err.ensures.0 c.requires.new c.requires.parts.new some)

pub returns-in-Err-clause-legal : goal.returns-in-Err-clause-legal
returns-in-Err-clause-legal g c = subst AreLegal (sym c.in-Err.ensures.1) c.requires.legal

pub returns-in-Ok-clause-keeps : goal.returns-in-Ok-clause-keeps
returns-in-Ok-clause-keeps g c = λ some.
    answers_kept g.H.HubName.opening c.into_parts-store.result.0.ledger.log (c.into_parts-store.ensures.true_log some)

pub returns-in-Err-clause-keeps : goal.returns-in-Err-clause-keeps
returns-in-Err-clause-keeps g c = λ some.
    none_moved g.H.HubName.opening c.in-Err.store.ledger.log (ap (λ (s : StoreView). s.ledger.log) c.in-Err.ensures.0 ∙ c.requires.new.none)
