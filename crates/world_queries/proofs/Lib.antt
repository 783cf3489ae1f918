pub mod Recalled
pub mod Asked
pub mod Placed
pub mod Questions
pub mod AskedOne
pub mod Overfull
