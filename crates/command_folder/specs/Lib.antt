pub mod Endings
pub mod Choosing
pub mod Numbering
pub mod Folders
pub mod Printing
pub mod Replies
pub mod Bodies
