pub mod NumberRanges
pub mod StandingFor
