pub mod Building
pub mod Runs
pub mod Acceptance
pub mod Table
