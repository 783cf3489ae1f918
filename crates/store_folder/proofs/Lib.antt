pub mod Beside
pub mod NameFacts
pub mod Adopted
mod Removed
