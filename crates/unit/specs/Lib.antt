pub mod Unit
pub mod Gaps
