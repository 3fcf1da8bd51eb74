pub mod Fields
pub mod Laid
pub mod Entries
pub mod Calls
pub mod After
