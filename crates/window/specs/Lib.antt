pub mod Window
pub mod Positions
