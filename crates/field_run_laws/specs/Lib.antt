pub mod Lists
pub mod Ready
pub mod Laws
pub mod Example
