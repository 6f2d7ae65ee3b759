pub mod Books
pub mod Borne
pub mod Heard
pub mod Laws
pub mod Apart
pub mod Made
