pub mod Overwriting
pub mod Records
