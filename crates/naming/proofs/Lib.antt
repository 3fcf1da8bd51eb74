pub mod PrefixLaws
pub mod CutLaws
pub mod NamingLaws
