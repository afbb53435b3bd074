pub mod Entries
pub mod Sifting
