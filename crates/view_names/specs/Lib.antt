pub mod Named
pub mod NameLists
