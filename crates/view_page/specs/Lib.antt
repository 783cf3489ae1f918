pub mod Pages
pub mod Registers
