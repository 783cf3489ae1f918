pub mod Dropped
pub mod Reading
