pub mod TokenLaws
pub mod CallLaws
