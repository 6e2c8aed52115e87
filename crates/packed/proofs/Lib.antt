pub mod FormLaws
pub mod PrefixLaws
pub mod StepLaws
pub mod WalkLaws
