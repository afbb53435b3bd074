pub mod Bodies
pub mod Codec
pub mod Fields
pub mod Figures
pub mod Many
pub mod Puts
pub mod Whole
