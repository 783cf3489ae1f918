pub mod Asked
pub mod Dates
pub mod OwnHeads
pub mod WholeLedgers
