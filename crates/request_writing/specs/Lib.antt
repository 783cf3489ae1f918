pub mod RequestTexts
pub mod ReadBack
