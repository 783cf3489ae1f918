pub mod Lone
pub mod Standing
