pub mod Rising
pub mod Choosing
pub mod Pairs
