pub mod Telling
pub mod Brings
pub mod Opens
pub mod Homecoming
