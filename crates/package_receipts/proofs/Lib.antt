pub mod Ranges
pub mod Lists
pub mod Walking
pub mod Saying
pub mod BetweenStatements
pub mod Parts
