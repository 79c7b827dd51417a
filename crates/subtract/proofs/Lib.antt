-- Laws of a field less the rows of another, Subtract with a record, and the proofs of the claims.
pub mod Laws
pub mod WithRecord
pub mod Theorems
