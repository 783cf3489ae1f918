pub mod Taken
pub mod Gathering
pub mod Laws
