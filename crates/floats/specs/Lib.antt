pub mod Floats
pub mod Powers
