pub mod MeetingLaws
pub mod NamedLaws
pub mod TakingLaws
pub mod WriteLaws
