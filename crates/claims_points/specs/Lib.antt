pub mod Points
pub mod Gaps
pub mod Live
pub mod Placings
pub mod Origins
