pub mod Lookups
pub mod Reached
pub mod States
