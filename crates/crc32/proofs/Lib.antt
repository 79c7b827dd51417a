-- Laws of the register and of the table, and the proofs of the claims.
pub mod Register
pub mod Table
pub mod Laws
pub mod Theorems
