pub mod Extending
pub mod ExtendedPaths
