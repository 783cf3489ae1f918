mod FixedTexts
mod ListFacts
mod ReplyFacts
