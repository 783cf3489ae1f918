pub mod Lines
pub mod Tidying
