pub mod Kept
mod Lists
