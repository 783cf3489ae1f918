pub mod Hints
pub mod Reading
pub mod Searching
