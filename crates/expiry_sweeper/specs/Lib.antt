pub use Rattle.rows_model.specs.Key
pub use Rattle.lease_table.specs.Leases
pub mod Sweeps
pub mod EndsFirst
pub mod Follows
