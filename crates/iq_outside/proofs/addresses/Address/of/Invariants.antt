use Rattle.std.proofs.Common.{◌≡◌, take}
use Rattle.iq_outside.specs.Outside.{firsts}
use Rattle.iq_outside.proofs.addresses.Address.of.Given as goal

-- the bytes so far
abbrev pub invariant-loop-byte : goal.invariant-loop-byte
invariant-loop-byte l = firsts l.bytes.items ≡ take l.byte-index l.addr
