pub mod RangeExports
