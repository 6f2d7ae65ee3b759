use Rattle.std.proofs.Common.{◌≡◌, drop, fold}
use Rattle.std.specs.List.{flat_map}
use Rattle.rows_model.specs.Changes.{foot_of, with_key, footprint}
use Rattle.rows_model.proofs.footprints.footprint.Given as goal

abbrev pub invariant-loop-change : goal.invariant-loop-change
invariant-loop-change l =
    fold with_key l.keys.items (flat_map foot_of (drop l.change-index l.change-items)) ≡ footprint l.change-items
