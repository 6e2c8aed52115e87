pub mod FoundLaws
pub mod AskedLaws
pub mod LineLaws
