pub mod Graphs
pub mod Theorems
pub mod Starred
pub mod Calls
