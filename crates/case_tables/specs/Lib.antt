pub mod Compatibility
