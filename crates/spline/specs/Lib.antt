pub mod Place
pub mod Rule
pub mod Build
pub mod Multiplicities
pub mod Defined
pub mod Box
pub mod Inner
