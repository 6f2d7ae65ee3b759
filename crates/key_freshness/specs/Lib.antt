pub mod Marks
pub mod Known
pub mod Moments
pub mod Held
pub mod Laws
pub use Rattle.key_shard.specs.Past
pub use Rattle.sql_keeper.specs.Log
pub use Rattle.sql_keeper.specs.Fresh
