pub mod DigitLaws
pub mod PieceLaws
pub mod ValueLaws
pub mod LineLaws
pub mod RoomLaws
pub mod PrintedLaws
pub mod PlainLaws
pub mod AsciiLaws
