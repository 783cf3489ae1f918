pub mod Pieces
pub mod Lent
pub mod Receipts
pub mod Verdicts
pub mod Pages
