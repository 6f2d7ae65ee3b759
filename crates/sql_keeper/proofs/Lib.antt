pub mod MoveLemmas
pub mod StoreLemmas
pub mod TurnLemmas
