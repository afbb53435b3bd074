pub mod InRange
pub mod Tellers
