pub mod Grouping
pub mod Homecoming
