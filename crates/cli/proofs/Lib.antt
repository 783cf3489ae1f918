pub mod Pieces
pub mod Rehearsing
mod ServedAfter
