pub mod CopyingStates
pub mod MemoryDoorLemmas
pub mod MemoryFormsLemmas
pub mod OutsideLemmas
