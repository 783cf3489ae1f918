pub mod Calls
pub mod Reasons
pub mod Carrying
pub mod Laws
pub mod Register
pub mod Members
pub mod Turning
pub mod Steps
