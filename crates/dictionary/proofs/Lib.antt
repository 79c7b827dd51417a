-- What only the proofs cite.
pub mod Fields
pub mod VersionOne
pub mod VersionTwo
pub mod LaidOut
pub mod Accepted
pub mod Theorems
pub mod Steps
pub mod Walks
pub mod Offsets
pub mod NextEntry
pub mod CarriesNothing
