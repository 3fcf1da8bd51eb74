pub mod TextLaws
pub mod KeyLaws
pub mod LongestLaws
pub mod WidthLaws
