pub mod Rehearsals
pub mod Servings
