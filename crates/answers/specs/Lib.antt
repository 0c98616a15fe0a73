pub mod Bernstein
pub mod Point
pub mod Live
