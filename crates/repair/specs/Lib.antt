pub mod Asking
pub mod Match
pub mod Repaired
