use Rattle.std.proofs.Common.{subst}
use Rattle.key_slots.specs.Slots.{IsSound}
use Rattle.key_slots.proofs.KeptLemmas.{kept_sound}
use Rattle.key_slots.proofs.slots.KeySlots.key.Goals as goal

pub returns-in-Some-Some-clause-sound : goal.returns-in-Some-Some-clause-sound
returns-in-Some-Some-clause-sound c = subst IsSound c.self.view_is (kept_sound c.self.invariant)

pub returns-in-Some-None-clause-sound : goal.returns-in-Some-None-clause-sound
returns-in-Some-None-clause-sound c = subst IsSound c.self.view_is (kept_sound c.self.invariant)

pub returns-in-None-clause-sound : goal.returns-in-None-clause-sound
returns-in-None-clause-sound c = subst IsSound c.self.view_is (kept_sound c.self.invariant)
