use Rattle.key_slots.proofs.SlotLemmas.{each_slot}
use Rattle.key_slots.proofs.laws.each_slot_is_one_keys.Goals as goal

pub returns : goal.returns
returns c = each_slot
