pub mod Insertions
pub mod MapTheorem
