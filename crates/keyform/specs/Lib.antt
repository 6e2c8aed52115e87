pub mod Answering
pub mod FormCases
pub mod KeyCases
pub mod KeyTheorem
pub mod Reading
pub mod Splitting
pub mod Texts
pub mod Wording
