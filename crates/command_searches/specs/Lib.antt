pub mod Hints
pub mod Searches
