pub mod PastSheetLaws
