pub mod Views
pub mod Copies
pub mod Numbers
pub mod Surveying
pub mod Either
