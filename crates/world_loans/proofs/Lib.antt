mod Tickets
pub mod Listing
pub mod DueSplits
pub mod DueMerges
pub mod SplitReasons
pub mod MergeReasons
