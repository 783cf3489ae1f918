pub mod Adding
pub mod Deleting
pub mod Linking
pub mod Finding
pub mod KeptNumbers
pub mod Dropping
pub mod Joining
pub mod Numbers
pub mod Rooms
pub mod NewPackage
pub mod Looking
pub mod Uuids
pub mod Answering
pub mod Ends
mod Contents
mod MappingTables
mod OneFrame
pub mod OnePackage
mod Gathering
mod Telling
mod Moments
mod InOrder
pub mod Reaching
