use Rattle.std.proofs.Common.{◌≡◌, drop}
use Rattle.rows_model.specs.Placement.{hash_from}
use Rattle.rows_model.proofs.placement.hashed.Given as goal

abbrev pub invariant-loop-byte : goal.invariant-loop-byte
invariant-loop-byte l = hash_from l.hash (drop l.byte-index l.bytes) ≡ hash_from l.fn.hash l.bytes
