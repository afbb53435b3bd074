pub mod Parcels
pub mod Shift
