pub mod EndLaws
pub mod RangeParts
