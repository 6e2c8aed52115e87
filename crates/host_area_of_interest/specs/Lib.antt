pub mod InterestExports
