pub mod Full
pub mod Replies
pub mod Soundness
pub mod Stores
