pub mod Holds
pub mod Naming
pub mod Stock
pub mod Laws
