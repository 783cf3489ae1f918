pub mod Laws
pub mod Making
pub mod Checks
pub mod Changing
pub mod Example
