pub mod LineFromEdge
pub mod Halves
