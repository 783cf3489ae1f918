pub mod Drops
pub mod Places
pub mod Requests
