pub mod Receiving
pub mod Taking
pub mod Told
