pub mod EntryRows
pub mod HeldRows
