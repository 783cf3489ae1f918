pub mod Walked
pub mod Either
