mod CommandFacts
mod ContentFacts
mod MemberFacts
mod NoneFacts
pub mod OneRequest
mod OneWord
