pub mod AddedLaws
pub mod InsertLaws
