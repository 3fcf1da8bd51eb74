pub mod Shorter
pub mod NameCases
pub mod TightenLaws
pub mod FlattenLaws
pub mod SameLaws
pub mod NameLaws
pub mod InkLaws
