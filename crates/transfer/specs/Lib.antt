pub mod Refusals
pub mod Parcels
pub mod Moves
pub mod Removals
