pub mod LocalPlaces
pub mod Answers
