pub mod OneContext
pub mod FirstLaws
