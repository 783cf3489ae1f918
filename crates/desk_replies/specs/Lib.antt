pub mod Bodies
pub mod Responses
