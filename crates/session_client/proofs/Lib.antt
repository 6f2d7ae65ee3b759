pub mod QuarantineLemmas
pub mod HandLemmas
pub mod HeardLemmas
pub mod RoomLemmas
pub mod TurnLemmas
pub mod WantCases
