pub mod Keys
pub mod Held
pub mod Lists
pub mod Agreeing
pub mod Ready
