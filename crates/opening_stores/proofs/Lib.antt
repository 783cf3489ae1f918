mod Frames
pub mod LookedAt
pub mod Judged
mod Migrated
pub mod Brought
pub mod Turning
pub mod Least
pub mod Members
pub mod HandedIn
pub mod SharedOut
pub mod Strangers
