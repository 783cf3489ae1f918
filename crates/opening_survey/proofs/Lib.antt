pub mod Heading
pub mod Claiming
pub mod Packing
pub mod Levelling
pub mod Passing
pub mod Sighting
mod Framing
mod OneFrame
