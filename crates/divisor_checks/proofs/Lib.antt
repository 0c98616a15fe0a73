pub mod Scale
pub mod Accepted
mod Largest
