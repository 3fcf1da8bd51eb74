pub mod Test
pub mod Reading
pub mod Cell
pub mod Passed
pub mod Ensures
pub mod Front
pub mod Going
