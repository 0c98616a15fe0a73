pub mod Accepted
pub mod OneMore
