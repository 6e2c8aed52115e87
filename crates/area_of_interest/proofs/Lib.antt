pub mod InterestLaws
