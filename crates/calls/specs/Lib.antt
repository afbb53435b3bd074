pub mod Delivering
pub mod News
pub mod Posting
pub mod Refusing
pub mod Told
pub mod Took
pub mod Writing
