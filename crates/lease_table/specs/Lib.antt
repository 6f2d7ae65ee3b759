pub mod Expiry
pub mod Index
pub mod Lapses
pub mod Leases
pub mod Standing
pub use Rattle.rows_model.specs.Key
pub use Rattle.case_tables.specs.Compatibility
