pub mod StoredLaws
pub mod Filling
pub mod ReadBack
pub mod ItemsCases
