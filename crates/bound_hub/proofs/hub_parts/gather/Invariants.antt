use Rattle.std.proofs.Common.{◌≡◌, ◌++◌, List, All, vec_len}
use Rattle.log_word.specs.Steps.{IsBeginning}
use Rattle.log_word.specs.Passes.{PassView}
use Rattle.bound_hub.proofs.hub_parts.gather.Given as goal

-- the passes that are left are of the word, and what those before them had seen is seen
abbrev pub invariant-loop-pass : goal.invariant-loop-pass
invariant-loop-pass g l = record {
  word : All (λ pass. pass.word ≡ g.H.BoundName.word) l.passes.items;
  begun : (done : List PassView) × (l.fn.passes.items ≡ l.passes.items ++ done) × All (λ pass. IsBeginning pass.seen l.store.seen) done;
  store : l.store.store ≡ l.fn.store.store;
}

abbrev pub decreases-loop-pass : goal.decreases-loop-pass
decreases-loop-pass g l = vec_len l.passes
