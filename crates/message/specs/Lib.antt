pub mod Meanings
pub mod Ranges
pub mod Tags
