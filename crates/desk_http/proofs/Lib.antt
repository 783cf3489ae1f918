mod AnswerFacts
mod Barring
mod CommandFacts
mod DueFacts
mod ListingFacts
pub mod ServedBy
