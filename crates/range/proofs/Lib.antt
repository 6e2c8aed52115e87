pub mod MetLaws
pub mod StandingForLaws
