mod Zipped
mod OneView
mod AllViews
mod Openings
pub mod Leavings
mod Apart
mod Surviving
mod OpenedTimely
