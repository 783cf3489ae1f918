pub mod Loans
pub mod Seen
pub mod Found
pub mod Stands
pub mod Bounds
pub mod Timed
pub mod Repeated
