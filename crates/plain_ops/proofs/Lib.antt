pub mod EntryLemmas
pub mod FitLemmas
pub mod DifferLemmas
pub mod BelongLemmas
