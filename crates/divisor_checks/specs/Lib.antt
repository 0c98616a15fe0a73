pub mod Divisor
pub mod Inner
