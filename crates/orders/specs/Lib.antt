pub mod Order
pub mod Inner
