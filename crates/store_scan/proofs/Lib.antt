pub mod ScanLaws
pub mod PassingLaws
