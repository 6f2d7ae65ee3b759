pub mod Events
pub mod Steps
pub mod Lists
pub mod Views
pub mod Rule
pub mod Passes
pub mod Laws
