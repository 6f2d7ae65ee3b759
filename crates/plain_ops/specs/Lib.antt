pub mod Kept
pub mod Entries
pub mod Tables
pub mod Steps
pub mod Laws
pub mod Desks
