pub use Rattle.sql_keeper.specs.Fresh
pub use Rattle.sql_keeper.specs.Log
pub mod Findings
pub mod Grants
pub mod Answers
pub mod Numbers
pub mod Notes
