pub mod EndValueLaws
pub mod RangePartLaws
