pub mod Each
pub mod Every
pub mod Listed
pub mod Members
pub mod Tests
