pub mod RefusalLemmas
pub mod GotLemmas
