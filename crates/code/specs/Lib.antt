pub mod Chosen
pub mod Codings
pub mod Recovery
pub mod Layout
pub mod Meaning
pub mod Refusing
