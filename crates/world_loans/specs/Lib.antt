pub mod Loans
pub mod ServeFaults
