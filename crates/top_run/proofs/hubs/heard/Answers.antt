use Rattle.std.proofs.Common.{◌∷◌, subst, ◌∙◌}
use Rattle.std.proofs.lemmas.List.Elements.{All-cons}
use Rattle.log_word.specs.Passes.{PassView}
use Rattle.log_word.specs.Steps.{IsBeginning}
use Rattle.bound_desk.specs.Bound.{BoundDeskView}
use Rattle.bound_desk.specs.Records.{IsRecordSeen}
use Rattle.bound_desk.proofs.RecordLemmas.{record_goes_on}
use Rattle.top_run.proofs.SessionLemmas.{all_recorded, desk_last}
use Rattle.top_run.proofs.hubs.heard.Goals as goal

pub loop-desk-preserved : goal.loop-desk-preserved
loop-desk-preserved g c =
    let before = c.loop-desk.invariant in
    let last = c.in-Some.desk in
    let rest = c.pop.new.self.items in
    let now = c.join.new.self.seen in
    let shards = g.H.BoundName.word.shards in
    let theirs = subst (λ (p : PassView). IsBeginning p.seen now) c.note.ensures.note c.join.ensures.theirs in
    record {
      word = c.join.ensures.word ∙ before.word;
      seen = (
        last ∷ before.seen.0,
        desk_last c.loop-desk.desks.items c.args.desks.items before.seen.0 rest last before.seen.1 c.in-Some.ensures.items,
        All-cons (λ (desk : BoundDeskView). IsRecordSeen g.H.HubName.terms g.H.BoundName.before shards desk.worker desk.calls now) last before.seen.0
            (record_goes_on g.H.HubName.terms g.H.BoundName.before shards last.worker last.calls c.into_pass-theirs.result.seen now theirs c.into_pass-theirs.ensures.recorded)
            (all_recorded g.H.HubName.terms g.H.BoundName.before shards c.loop-desk.pass.seen now before.seen.0 c.join.ensures.mine before.seen.2),
      );
    }
