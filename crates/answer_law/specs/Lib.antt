pub mod Buffers
pub mod ListedBuffers
pub mod Conversions
pub mod PathAnswers
pub mod SheetAnswers
pub mod PartAnswers
pub mod Lendings
