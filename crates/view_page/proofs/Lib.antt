mod Holding
mod Lives
mod Through
