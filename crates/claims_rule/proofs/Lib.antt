pub mod Rule
pub mod Plain
pub mod Numbers
