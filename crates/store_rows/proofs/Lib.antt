pub mod RowEntryLaws
pub mod HeldLaws
