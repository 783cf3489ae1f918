mod ListFacts
mod RecordFacts
