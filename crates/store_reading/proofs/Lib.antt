pub mod EntryAtLaws
pub mod ReadCallLaws
