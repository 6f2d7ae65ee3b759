pub mod EndLemmas
pub mod StandLemmas
