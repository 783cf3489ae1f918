pub mod Arrays
pub mod Forms
pub mod Ledgers
pub mod Packages
pub mod Ways
