-- What a window means, and what contracts of clipping and marking cite.
pub mod Meaning
pub mod Promises
