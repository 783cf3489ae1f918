mod Copied
mod Formed
mod Numbering
mod Sighted
mod Viewed
