pub mod RowReadLaws
pub mod RuleAtLaws
