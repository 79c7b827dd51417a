pub mod Steps
pub mod Laws
pub mod ListedOnce
pub mod Laid
pub mod Accepted
pub mod FileRefusals
pub mod Theorems
