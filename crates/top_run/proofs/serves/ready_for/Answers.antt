use Rattle.std.proofs.Common.{arith, ap, refl, ◌∙◌}
use Rattle.std.specs.Prelude.{unwrap_or}
use Rattle.run_words.specs.Words.{most_served}
use Rattle.top_run.proofs.ServeLemmas.{room_for}
use Rattle.top_run.proofs.serves.ready_for.Goals as goal

pub returns : goal.returns
returns c = record {
  parts = rw c.shape_of.ensures at c.in_ok-parts_for.ensures;
  none = c.in_ok-with_capacity.ensures.items;
  begun = refl;
  room = room_for (most_served c.args.spec.now.conns) _ _ (c.unwrap_or-most.ensures ∙ ap (λ most. unwrap_or most 0) c.most.ensures)
      (grind (arith, c.in_ok-with_capacity.ensures.capacity));
}
