use Rattle.std.proofs.Common.{subst}
use Rattle.key_slots.specs.Slots.{IsSound}
use Rattle.key_slots.proofs.KeptLemmas.{kept_sound}
use Rattle.key_slots.proofs.slots.KeySlots.give.Goals as goal

pub returns-then-len-self-clause-sound : goal.returns-then-len-self-clause-sound
returns-then-len-self-clause-sound c = subst IsSound c.self.view_is (kept_sound c.self.invariant)

pub returns-in_err-own-clause-sound : goal.returns-in_err-own-clause-sound
returns-in_err-own-clause-sound c = subst IsSound c.self.view_is (kept_sound c.self.invariant)

pub returns-in_err-name-clause-sound : goal.returns-in_err-name-clause-sound
returns-in_err-name-clause-sound c = subst IsSound c.self.view_is (kept_sound c.self.invariant)
