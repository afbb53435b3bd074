pub mod Firsts
pub mod Folds
pub mod Held
