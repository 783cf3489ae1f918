pub mod Ranged
pub mod Ties
pub mod Received
pub mod Headed
pub mod Whole
