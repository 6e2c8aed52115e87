pub mod Buffers
pub mod Sizes
