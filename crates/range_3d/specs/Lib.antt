pub mod LentRanges3d
