pub mod Bytes
pub mod Orders
pub mod Written
pub mod Inspections
pub mod Copied
pub mod Held
pub mod Kept
pub mod Factory
