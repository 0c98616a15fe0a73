pub mod Printed
pub mod Lengths
pub mod Reading
pub mod Built
