pub mod BufferTableLaws
pub mod ListedBufferLaws
pub mod ConversionBackLaws
pub mod PathAnswerLaws
pub mod SheetAnswerLaws
pub mod PartAnswerLaws
pub mod LendingLaws
