pub mod BoundLemmas
pub mod OnceLemmas
pub mod ItemLemmas
pub mod ReadLemmas
pub mod LawLemmas
