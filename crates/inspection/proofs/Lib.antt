pub mod DefinedBytes
pub mod InspectChecks
