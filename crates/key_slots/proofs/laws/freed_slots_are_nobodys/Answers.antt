use Rattle.key_slots.proofs.SlotLemmas.{freed}
use Rattle.key_slots.proofs.laws.freed_slots_are_nobodys.Goals as goal

pub returns : goal.returns
returns c = freed
