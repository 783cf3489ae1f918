pub mod Receipts
pub mod Requests
