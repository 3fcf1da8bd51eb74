pub mod Rests
pub mod Longest
