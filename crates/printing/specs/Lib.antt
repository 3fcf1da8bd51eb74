pub mod Room
pub mod Field
