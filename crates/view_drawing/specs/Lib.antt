pub mod Sheets
pub mod Names
pub mod Marks
pub mod Legends
pub mod Drawings
