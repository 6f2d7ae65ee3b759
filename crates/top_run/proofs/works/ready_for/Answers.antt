use Rattle.std.proofs.Common.{sym, ap, ◌∙◌, List, length}
use Rattle.std.proofs.lemmas.List.{length-map}
use Rattle.session_client.specs.declared.plans.Plan.{Plan}
use Rattle.top_run.proofs.ReadyLemmas.{lists_of}
use Rattle.top_run.proofs.works.ready_for.Goals as goal

pub returns : goal.returns
returns c =
    let plans = c.in_ok-make_plans.field-0 in
    record {
      plans = c.in_ok-make_plans.ensures.are_plans;
      are_load = c.in_ok-make_plans.ensures.load;
      workers = sym (length-map plans.items (λ list. list.items))
          ∙ (ap (λ (l : List (List Plan)). length l) c.in_ok-make_plans.ensures.load ∙ lists_of c.args.spec.now);
      parts = rw c.shape_of.ensures at c.in_ok-parts_for.ensures;
    }
