pub mod Tables
pub mod TableRows
pub mod KnownRanges
pub mod BufferAnswers
pub mod LentTables
pub mod Bounds
pub mod Offers
pub mod OneState
