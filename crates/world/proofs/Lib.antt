pub mod Noted
pub mod ChangesMade
pub mod Keeping
pub mod Beginning
pub mod Running
mod Faults
pub mod WorldsRead
pub mod Sights
mod CarriedOut
mod ServedAll
mod Dated
mod Asks
mod Settled
pub mod Room
