pub mod Matrices
pub mod Elimination
