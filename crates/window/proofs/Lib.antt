-- Laws of numbers seen through a window, of a window seen from a base on, of bits that are moved, and of what is marked.
pub mod Windows
pub mod Clipping
pub mod WindowMarks
pub mod Moved
pub mod ByteShifts
pub mod Merges
