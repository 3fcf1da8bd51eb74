pub mod ScopeLaws
pub mod RecordLaws
pub mod StateLaws
pub mod TokenLaws
pub mod ExportedPair
