pub mod Blending
pub mod Gaps
pub mod Blend
pub mod Inner
