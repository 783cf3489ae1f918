pub mod KeptRows
pub mod Entering
pub mod Kept
pub mod Naming
pub mod Things
pub mod Rows
pub mod Homecoming
pub mod Lent
