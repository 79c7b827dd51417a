-- Laws of marking through a window, and of the call's stages; then of what is claimed.
pub mod Steps
pub mod Marking
pub mod Bitmaps64
pub mod Bins
pub mod Files
pub mod InWindows
pub mod Calls
pub mod FromZero
pub mod Theorems
