use Rattle.std.proofs.Common.{List, ℕ, subst, ◌++◌, ◌∙◌}
use Rattle.top_run.specs.Runs.{Prints}
use Rattle.top_run.proofs.warms.tell_behind.Goals as goal

pub returns-in-Ok-print-clause-told : goal.returns-in-Ok-print-clause-told
returns-in-Ok-print-clause-told g c = λ spec opening log histories taken front h before. record {
  text = c.in-Ok.made.text.items;
  is_summary = rw c.in-Ok.is at h;
  prints = subst (λ (bytes : List ℕ). Prints taken (g.W.Sink.taken c.print.new.sink) (front ++ bytes) c.print.new.written) c.as_slice.ensures.value
      (c.in-Ok-print.ensures.all taken front before);
}

pub returns-clause-halted : goal.returns-clause-halted
returns-clause-halted g c = λ spec opening log histories taken front h before.
    let cut = c.in-Err.ensures.some taken front before in
    record {
      found = c.in-Ok.made.finding;
      text = c.in-Ok.made.text.items;
      is_summary = rw c.in-Ok.is at h;
      printed = cut.0;
      more = cut.1;
      parts = cut.2 ∙ c.as_slice.ensures.value;
      prints = cut.3;
    }
