pub mod Sights
pub mod Holders
pub mod Splits
pub mod Accounts
pub mod Homes
pub mod Registers
