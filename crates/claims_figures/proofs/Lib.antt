pub mod Figures
pub mod FurtherFigures
