pub mod Boxes
pub mod Dropping
pub mod Folders
pub mod Naming
pub mod Ordering
pub mod Orders
pub mod Putting
pub mod Telling
