pub mod Rows
pub mod Forming
pub mod Plain
pub mod Seeing
pub mod Asking
pub mod Filling
pub mod Whole
pub mod Heading
pub mod Ascending
pub mod Claiming
pub mod Dating
mod Having
mod Agreeing
mod Framing
mod Levelling
mod Fixing
