pub use Rattle.iq_outside.specs.Outside
pub mod DoorSeen
pub mod Attending
pub mod Ends
