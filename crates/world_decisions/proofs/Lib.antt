pub mod Decided
mod SplitDecided
mod SplitLimits
mod SplitAsked
mod Things
pub mod FirstInOrder
mod DecidedMerges
mod MergeLimits
mod Clashing
mod KeptMerges
