pub mod Weights
pub mod Parts
pub mod Blended
