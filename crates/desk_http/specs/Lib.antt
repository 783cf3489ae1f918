pub mod Commands
pub mod Connections
pub mod Listing
pub mod Served
