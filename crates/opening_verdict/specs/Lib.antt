pub mod Tickets
pub mod Parts
pub mod Views
pub mod Checks
pub mod Accounts
pub mod Tallies
