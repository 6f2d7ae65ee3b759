pub mod GridLemmas
pub mod RulesGrid
