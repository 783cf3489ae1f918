pub mod Lasting
pub mod Naming
