pub mod Outside
pub mod MemoryForms
pub mod Adapters
pub mod Failures
