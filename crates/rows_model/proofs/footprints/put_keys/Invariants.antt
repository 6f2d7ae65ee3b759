use Rattle.std.proofs.Common.{◌≡◌, drop, fold}
use Rattle.rows_model.specs.Changes.{keys_of, with_key}
use Rattle.rows_model.proofs.footprints.put_keys.Given as goal

abbrev pub invariant-loop-kind : goal.invariant-loop-kind
invariant-loop-kind l =
    fold with_key l.keys.items (keys_of l.id (drop l.kind-index l.kinds)) ≡ fold with_key l.fn.keys.items (keys_of l.id l.kinds)
