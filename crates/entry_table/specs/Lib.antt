pub mod Entries
pub mod Kept
pub use Rattle.rows_model.specs.Key
