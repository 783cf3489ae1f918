pub mod Changes
pub mod Dates
pub mod Worlds
pub mod Creating
pub mod Reading
pub mod Asked
pub mod Knowing
pub mod Questions
