pub mod Cuts
pub mod Ends
pub mod Threes
pub mod Sizes
pub mod Units
pub mod Marks
