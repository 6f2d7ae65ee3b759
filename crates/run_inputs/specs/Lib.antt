pub mod Texts
pub mod Lines
pub mod Script
pub mod Fit
pub mod Parsing
pub mod Loads
pub mod Words
