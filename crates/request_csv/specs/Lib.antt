pub mod Causes
pub mod Digits
pub mod Forms
pub mod ListLaws
pub mod ListReading
pub mod RequestLists
pub mod Requests
