pub mod CoveringLaws
pub mod ApartLaws
pub mod EntryRows
pub mod TestedLaws
pub mod ReadingLaws
