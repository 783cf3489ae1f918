pub mod Looking
pub mod Rows
pub mod Placing
pub mod Heads
pub mod Forms
pub mod Frames
