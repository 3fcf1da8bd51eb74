pub mod KeptLaws
pub mod FittingLaws
pub mod PointerLaws
pub mod MatchLaws
pub mod FreshLaws
pub mod RepairCodeLaws
pub mod RepairCallLaws
pub mod BothCalls
