pub mod Untouched
pub mod Listed
pub mod Asked
pub mod Found
