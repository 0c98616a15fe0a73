pub mod Whole
pub mod Adding
pub mod Totals
pub mod Products
pub mod FloatPowers
