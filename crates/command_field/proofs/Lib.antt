mod Merging
pub mod Tickets
pub mod Told
mod Ids
mod Counts
mod Free
