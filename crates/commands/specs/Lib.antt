pub mod Printing
pub mod Registers
pub mod Streams
pub mod Subcommands
pub mod Tidies
pub mod Works
