pub mod TakenLemmas
pub mod WordLemmas
pub mod ReadLemmas
pub mod AcceptLemmas
