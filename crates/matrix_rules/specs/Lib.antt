pub mod Axes
pub mod Places
