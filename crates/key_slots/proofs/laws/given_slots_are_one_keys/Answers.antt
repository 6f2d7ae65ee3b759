use Rattle.key_slots.proofs.SlotLemmas.{given}
use Rattle.key_slots.proofs.laws.given_slots_are_one_keys.Goals as goal

pub returns : goal.returns
returns c = given
