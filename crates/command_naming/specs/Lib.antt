pub mod Drops
pub mod Naming
pub mod Trees
