pub mod HostNumberLaws
pub mod AnsweredKindLaws
pub mod HostAnswerLaws
