pub mod SchemaMakes
pub mod Texts
pub mod NewPackage
pub mod Creating
mod Unmakes
