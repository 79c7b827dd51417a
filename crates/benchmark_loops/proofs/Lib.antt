-- The rows of a run, taken one after the other.
pub mod Runs
