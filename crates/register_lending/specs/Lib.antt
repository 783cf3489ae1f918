pub mod Selecting
pub mod Lending
pub mod Faults
