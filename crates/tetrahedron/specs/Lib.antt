pub mod LocalPlaces
pub mod Unity
