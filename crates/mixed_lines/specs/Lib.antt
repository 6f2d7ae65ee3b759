pub mod Items
pub mod Fronts
pub mod Laws
