pub mod Laws
pub mod Columns
pub mod Ledgers
pub mod Packages
pub mod Ways
