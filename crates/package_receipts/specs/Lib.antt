pub mod Ranges
pub mod Read
