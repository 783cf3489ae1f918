pub mod Layout
pub mod Sheets
pub mod Pieces
pub mod Maps
pub mod Zooms
pub mod Worlds
pub mod Laws
