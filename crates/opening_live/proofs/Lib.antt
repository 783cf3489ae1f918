pub mod Taken
pub mod Alone
pub mod Seen
pub mod Flags
pub mod Named
pub mod Faults
