pub mod Dating
pub mod Leaving
pub mod Writing
pub mod Turns
pub mod Giving
pub mod Splits
pub mod Merges
pub mod Carries
