pub mod Entries
pub mod Slots
pub mod Parts
pub mod Lending
pub mod Things
pub mod Accounts
pub mod Agreeing
pub mod Flows
