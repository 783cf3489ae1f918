mod Arriving
mod Copying
mod Filling
mod Reopening
