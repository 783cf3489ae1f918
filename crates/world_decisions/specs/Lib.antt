pub mod Deciding
pub mod DecidingSplits
pub mod DecidingMerges
