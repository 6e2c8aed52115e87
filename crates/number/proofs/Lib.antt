pub mod OverwritingLaws
pub mod RecordLaws
pub mod LibraryLaws
pub mod FillingLaws
