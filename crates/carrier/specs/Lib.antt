pub mod Blocks
pub mod Lanes
pub mod Laid
pub mod Parcels
pub mod Calls
pub mod Changes
pub mod Places
