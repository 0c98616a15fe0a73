pub mod Order
pub mod Reading
