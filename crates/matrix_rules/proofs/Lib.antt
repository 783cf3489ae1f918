pub mod Axes
pub mod Blocks
pub mod Frames
pub mod Grids
pub mod Insides
pub mod Parts
pub mod Products
pub mod Deep
