pub mod LastNamed
pub mod Standing
pub mod Excerpts
