pub mod Items
pub mod Looking
pub mod Packages
pub mod Telling
pub mod Ways
