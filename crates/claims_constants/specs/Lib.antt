pub mod Points
pub mod Placings
