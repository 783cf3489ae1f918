pub mod Laws
pub mod Chosen
pub mod Named
