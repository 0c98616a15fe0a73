pub mod Shapes
pub mod Directions
pub mod Rows
