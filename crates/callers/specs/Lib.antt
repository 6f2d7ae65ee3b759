pub mod Shards
pub mod Stores
pub mod Quits
pub mod Runs
pub mod Writes
pub mod Drops
pub mod Desks
