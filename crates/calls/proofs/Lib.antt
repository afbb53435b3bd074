pub mod Applying
pub mod Delivered
pub mod Joining
pub mod Noticing
pub mod Posting
pub mod Sweeping
pub mod Taking
pub mod Writing
