pub mod Servers
pub mod Steps
