pub use Rattle.session_client.specs.Plans
pub use Rattle.session_client.specs.Wants
pub use Rattle.session_client.specs.Belongs
pub use Rattle.session_client.specs.Desks
pub mod Marks
pub mod Rows
pub mod Notes
pub mod Tallies
