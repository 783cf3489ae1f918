pub mod Dropping
pub mod Holding
