pub mod Answers
pub mod Desks
pub mod Requests
