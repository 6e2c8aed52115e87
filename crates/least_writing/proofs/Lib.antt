pub mod LongerLaws
pub mod CallLaws
