pub mod LeftLaws
pub mod CarryLaws
