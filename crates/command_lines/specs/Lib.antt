pub mod Boxes
pub mod Drops
pub mod Trees
