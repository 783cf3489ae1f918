pub mod Beside
pub mod Timely
pub mod Laws
