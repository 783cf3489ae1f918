pub mod StayingOpen
pub mod HeldStores
mod Turned
pub mod Surviving
mod Placing
pub mod Writing
pub mod Lent
mod Returned
mod Dated
