pub mod Unplaced
pub mod Early
