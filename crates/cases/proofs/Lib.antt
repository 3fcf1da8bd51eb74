pub mod LaidLaws
pub mod FieldLaws
pub mod PointLaws
pub mod EntryLaws
pub mod AfterLaws
pub mod CallLaws
pub mod PlaceLaws
pub mod WithinLaws
