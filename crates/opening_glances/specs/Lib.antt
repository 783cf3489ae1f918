pub mod Glances
pub mod Laws
