mod CauseFacts
mod CommandFacts
mod ContentFacts
mod DigitFacts
mod FormFacts
mod ListFacts
mod NoneFacts
pub mod OneReading
mod OneRequest
mod OneWord
pub mod ReaderFacts
mod RecordFacts
mod UnmetForms
mod WordFacts
