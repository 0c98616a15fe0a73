pub mod Orders
pub mod Reading
