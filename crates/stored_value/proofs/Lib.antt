-- What only the proofs cite.
pub mod Widths
pub mod TwosComplement
pub mod Laws
pub mod Steps
pub mod Order
pub mod CarriesNothing
pub mod Places
pub mod Entering
