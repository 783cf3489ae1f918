pub mod Bounds
pub mod Finest
pub mod Texts
pub mod Drawing
pub mod Counting
