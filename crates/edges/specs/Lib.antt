pub mod Lines
pub mod EdgeWidth
