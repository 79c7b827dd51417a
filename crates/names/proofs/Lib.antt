pub mod Bits
pub mod StandardForm
pub mod ModifiedForm
pub mod Lists
pub mod Theorems
pub mod Steps
pub mod Decoding
pub mod Text
