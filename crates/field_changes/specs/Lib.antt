pub mod Sharing
pub mod Keys
pub mod Naming
pub mod Ids
pub mod Spare
pub mod Parts
pub mod Ends
pub mod Asked
