pub mod SlotLemmas
pub mod KeptLemmas
