pub mod PathRanges
