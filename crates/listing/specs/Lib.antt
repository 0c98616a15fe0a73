pub mod Print
pub mod Inner
