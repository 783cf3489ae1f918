pub mod Carrying
pub mod Changing
pub mod Deeds
