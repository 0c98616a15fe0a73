pub mod Bits
pub mod RoundTrip
pub mod OldLayout
