pub mod Requests
pub mod OnShard
pub mod OnStore
