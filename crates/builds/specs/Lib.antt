pub mod Repeat
pub mod Build
