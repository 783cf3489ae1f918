pub mod Keys
pub mod Remembering
