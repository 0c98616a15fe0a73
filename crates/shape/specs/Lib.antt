pub mod Shape
pub mod Direction
pub mod Inner
