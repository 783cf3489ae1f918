pub mod Unions
pub mod Coming
pub mod Trying
pub mod Going
pub mod Telling
pub mod Carrying
