pub mod RangeLaws
pub mod Scalars
pub mod HexLaws
pub mod OutputLaws
pub mod Lengths
pub mod Utf8Laws
pub mod Utf8Loops
pub mod Utf8Cases
