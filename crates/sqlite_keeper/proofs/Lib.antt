pub mod AnswerLemmas
pub mod LeavesLemmas
pub mod BondLemmas
pub mod BaseLemmas
pub mod CloseLemmas
pub mod MakeLemmas
pub mod OpeningLemmas
pub mod SchemaLemmas
pub mod LoadLemmas
mod StoreCrosses
mod ConnectionCrosses
pub mod KeeperCrosses
