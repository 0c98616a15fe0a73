pub mod LocalPlaces
pub mod Numbers
