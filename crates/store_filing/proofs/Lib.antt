pub mod PuttingLaws
