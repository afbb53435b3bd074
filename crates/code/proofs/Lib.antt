pub mod Alone
pub mod Cellwise
pub mod Choosing
pub mod Everyone
pub mod Known
pub mod Sizes
pub mod Turning
pub mod Valued
