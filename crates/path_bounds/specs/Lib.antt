pub mod LentPaths
pub mod LentRanges
