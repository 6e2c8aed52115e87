pub mod ListCallLaws
pub mod MeetingLaws
pub mod MeetsLaws
