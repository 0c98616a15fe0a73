pub mod Sum
pub mod Coefficient
pub mod Simplex
pub mod Search
pub mod Fill
pub mod Word
pub mod Steps
