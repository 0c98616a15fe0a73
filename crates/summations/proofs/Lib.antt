pub mod RowLoops
pub mod LineRows
pub mod PassFits
