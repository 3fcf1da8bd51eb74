pub mod Firsts
pub mod List
