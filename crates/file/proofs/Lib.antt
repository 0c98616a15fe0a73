pub mod Twos
pub mod Counted
