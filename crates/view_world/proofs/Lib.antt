pub mod HeldStores
pub mod Looked
pub mod AskedPackages
pub mod Rows
pub mod Answers
