-- 64-bit deletion bins, and a bin of either kind read through a window: what a writer may lay out, what a call answers, and what is claimed of both.
pub mod Layout
pub mod Reading
pub mod Promises
pub mod Claims
