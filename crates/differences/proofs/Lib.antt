pub mod LoweredPlaces
pub mod NearPlaces
pub mod DifferenceRows
pub mod Columns
pub mod RowEnds
pub mod PassFits
