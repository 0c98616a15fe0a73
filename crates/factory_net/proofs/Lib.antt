pub mod Numbers
pub mod TableRule
