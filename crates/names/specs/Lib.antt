pub mod Same
pub mod Trim
pub mod Name
pub mod Flatten
pub mod Fixed
pub mod Spelling
pub mod Ink
