pub mod HostNumbers
pub mod AnsweredKinds
pub mod HostAnswers
