pub mod Stores
pub mod Judged
pub mod Waiting
pub mod Brought
pub mod Sharing
pub mod Strangers
