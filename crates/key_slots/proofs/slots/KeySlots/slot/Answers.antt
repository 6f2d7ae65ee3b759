use Rattle.std.proofs.Common.{◌∙◌, ap, subst}
use Rattle.key_slots.specs.Slots.{Slots, IsSound, slot_of}
use Rattle.key_slots.proofs.KeptLemmas.{kept_sound, kept_found}
use Rattle.key_slots.proofs.slots.KeySlots.slot.Goals as goal

pub returns-clause-slot : goal.returns-clause-slot
returns-clause-slot c =
    c.copied.ensures ∙ c.get.ensures.value ∙ kept_found c.self.invariant c.args.key.now
    ∙ ap (λ (s : Slots). slot_of s c.args.key.now) c.self.view_is

pub returns-clause-sound : goal.returns-clause-sound
returns-clause-sound c = subst IsSound c.self.view_is (kept_sound c.self.invariant)
