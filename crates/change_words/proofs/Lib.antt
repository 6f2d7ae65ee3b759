pub mod OnceLemmas
pub mod TakenLemmas
