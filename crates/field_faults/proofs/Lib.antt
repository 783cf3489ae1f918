pub mod Behind
pub mod Nones
pub mod Places
