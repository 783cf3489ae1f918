pub mod Freedom
pub mod Answers
