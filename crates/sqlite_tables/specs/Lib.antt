pub mod Schema
pub mod Lists
pub mod Calls
pub mod Laws
pub mod Changes
