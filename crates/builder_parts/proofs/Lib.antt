pub mod BufferLaws
pub mod WriteLaws
