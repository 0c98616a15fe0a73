pub mod OrderNets
pub mod Telescope
pub mod TakenUp
pub mod Repeats
pub mod Outcomes
