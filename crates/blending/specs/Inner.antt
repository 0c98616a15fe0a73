pub mod Frame
pub mod Sums
pub mod Search
pub mod Window
