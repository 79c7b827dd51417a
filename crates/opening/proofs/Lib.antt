-- The proofs of the claims and the laws that they cite, then the laws that the proofs of the functions cite.
pub mod FrontLaid
pub mod FrontRefusals
pub mod Stages
pub mod Theorems
pub mod FrontSteps
pub mod TableSteps
pub mod OpenSteps
