mod Opened
mod Unfloated
