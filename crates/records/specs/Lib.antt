pub mod Stored
pub mod Items
