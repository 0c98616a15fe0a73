pub mod Point
pub mod Live
pub mod InTurn
