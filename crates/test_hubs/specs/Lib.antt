pub mod Telling
pub mod Hubs
