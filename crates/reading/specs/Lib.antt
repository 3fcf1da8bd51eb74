pub mod Codes
pub mod Look
pub mod Cells
pub mod Span
pub mod Goes
pub mod Slices
