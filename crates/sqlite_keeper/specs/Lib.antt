pub mod Keepers
pub mod Texts
pub mod Bonds
pub mod Bases
pub mod Makes
pub mod Openings
pub mod Schemas
pub mod Closings
