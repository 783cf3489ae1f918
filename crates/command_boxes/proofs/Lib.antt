pub mod Covers
pub mod Stretches
