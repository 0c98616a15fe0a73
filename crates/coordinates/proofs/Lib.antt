pub mod Faces
pub mod Origin
