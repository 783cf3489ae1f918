pub mod Cleanness
pub mod Emptiness
