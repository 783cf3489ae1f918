pub mod Kept
pub mod Looks
pub mod Told
