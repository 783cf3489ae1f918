pub mod Views
pub mod Laws
pub mod Looks
pub mod Surveying
