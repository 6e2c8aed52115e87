pub mod LentLaws
pub mod TestLaws
