pub mod Widening
pub mod Clearing
pub mod Pivots
pub mod Steps
pub mod Reducing
pub mod Decides
