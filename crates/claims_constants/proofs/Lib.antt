pub mod WindowShares
pub mod ConstantBlock
