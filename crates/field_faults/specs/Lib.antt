pub mod Heads
pub mod Reasons
pub mod Files
pub mod Lines
