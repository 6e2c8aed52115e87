pub mod Interests
