pub mod Contents
pub mod Listing
pub mod Orders
