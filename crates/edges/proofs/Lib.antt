pub mod EdgeSums
pub mod RowEdges
