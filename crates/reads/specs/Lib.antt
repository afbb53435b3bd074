pub mod Places
pub mod Readings
pub mod Ways
