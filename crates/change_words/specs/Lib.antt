pub mod Txns
pub mod Parsing
pub mod Laws
