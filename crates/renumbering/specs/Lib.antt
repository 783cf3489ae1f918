pub mod Keys
pub mod Renumbering
