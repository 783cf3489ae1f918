pub mod Faults
pub mod Leftovers
pub mod Names
pub mod Opened
pub mod Removals
