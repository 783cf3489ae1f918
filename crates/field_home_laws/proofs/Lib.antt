pub mod Fits
pub mod Home
pub mod Free
