pub mod Admitted
pub mod Weights
pub mod Origins
pub mod Given
