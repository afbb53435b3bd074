pub mod Encoding
pub mod Local
pub mod Opening
pub mod Reading
pub mod Told
pub mod Within
