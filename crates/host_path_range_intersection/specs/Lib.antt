pub mod PathRangeExports
