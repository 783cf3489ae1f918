pub mod Walking
mod Texts
mod ReadBodies
