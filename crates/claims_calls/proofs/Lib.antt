pub mod Numbered
pub mod FileNumbers
pub mod CheckNumbers
pub mod NetNumbers
pub mod Refusals
pub mod Unchanged
pub mod Records
