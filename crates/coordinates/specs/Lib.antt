pub mod Coordinates
pub mod Inner
