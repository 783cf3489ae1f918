mod EntryFacts
mod ListFacts
mod NoneFacts
mod OneWord
mod RecordFacts
