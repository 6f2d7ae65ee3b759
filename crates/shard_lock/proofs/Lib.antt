pub mod PowerLemmas
pub mod PlaceLemmas
