pub mod Ranges
pub mod Tied
pub mod Laws
pub mod Answers
pub mod Walks
pub mod Ties
pub mod Spots
pub mod Uniques
