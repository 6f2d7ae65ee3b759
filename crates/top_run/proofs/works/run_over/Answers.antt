use Rattle.std.proofs.Common.{refl, sym}
use Rattle.std.proofs.lemmas.Result.{IfOk-weaker}
use Rattle.top_run.proofs.SessionLemmas.{worked_over}
use Rattle.top_run.proofs.works.run_over.Goals as goal

pub returns-clause-worked : goal.returns-clause-worked
returns-clause-worked g c =
    let desks = c.in-Ok-desks_over.desks in
    IfOk-weaker c.work_all-transcripts.result _ _
    (λ transcripts work. worked_over _ _ _ g.H.HubName.terms g.H.BoundName.before g.H.BoundName.word.shards _ c.as_mut_slice.result.now desks.items
    c.work_all-transcripts.new.desks desks.len transcripts.items c.heard.result c.push_reserved.new.self.items c.in-Ok.passes.items (λ desk. refl) (λ desk. refl)
    c.as_mut_slice.ensures.value c.in-Ok-desks_over.ensures.new (sym desks.ok.0) work c.heard.ensures.recorded c.push_reserved.ensures.items c.in-Ok.ensures.items)
    c.work_all-transcripts.ensures.work
