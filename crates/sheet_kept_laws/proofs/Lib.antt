pub mod Growing
pub mod Given
pub mod Kept
pub mod Again
pub mod Doubled
pub mod Unasked
pub mod Stopped
