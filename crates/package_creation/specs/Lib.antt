pub mod Unmaking
