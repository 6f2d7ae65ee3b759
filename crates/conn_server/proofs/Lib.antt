pub mod GrantLemmas
pub mod RefusalLemmas
pub mod TellingLemmas
pub mod AnswerLemmas
pub mod ClosingLemmas
pub mod HeldLemmas
pub mod OutboxLemmas
pub mod CourseLemmas
