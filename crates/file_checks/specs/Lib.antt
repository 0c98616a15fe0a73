pub mod FileChecks
pub mod Inner
