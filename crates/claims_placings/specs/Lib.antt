pub mod Inside
pub mod Weights
pub mod Origins
pub mod Given
