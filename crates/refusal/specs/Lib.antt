-- 01's refusals: their numbers, what they carry; its limit; and stages of which the first refusal ends a call.
pub mod Meaning
pub mod Reading
pub mod Claims
