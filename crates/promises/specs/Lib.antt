pub mod Clean
pub mod Calls
pub mod Promises
pub mod Openings
pub mod Survivals
