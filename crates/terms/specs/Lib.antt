pub mod Answers
pub mod Items
pub mod Limits
pub mod Lists
pub mod Refusals
pub mod Sets
