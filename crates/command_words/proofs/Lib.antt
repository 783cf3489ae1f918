pub mod FrameTexts
mod NumberTexts
mod Telling
