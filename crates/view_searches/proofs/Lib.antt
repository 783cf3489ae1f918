pub mod Sifted
