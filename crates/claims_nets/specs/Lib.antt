pub mod Nets
pub mod Inspections
pub mod Factory
