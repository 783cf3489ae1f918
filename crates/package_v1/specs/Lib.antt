pub mod FirstVersion
pub mod Migrating
pub mod TakingBack
pub mod Laws
