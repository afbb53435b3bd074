pub mod Asked
pub mod Facts
pub mod Ranges
pub mod Refused
pub mod Renamed
pub mod Rising
pub mod Turning
