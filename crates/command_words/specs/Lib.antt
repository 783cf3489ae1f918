pub mod Arguments
pub mod DeskLines
pub mod Endings
pub mod Failures
pub mod Progress
