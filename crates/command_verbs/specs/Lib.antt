pub mod Areas
pub mod Faults
pub mod Items
pub mod Media
pub mod Names
pub mod Points
pub mod Verbs
