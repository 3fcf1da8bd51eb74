pub mod Written
pub mod Naming
pub mod Lending
