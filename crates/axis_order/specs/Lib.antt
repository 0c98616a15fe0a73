pub mod AxisOrder
pub mod Weights
pub mod Inner
