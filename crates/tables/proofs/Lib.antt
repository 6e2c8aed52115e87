pub mod Rows
pub mod LentLaws
pub mod RefusalLaws
pub mod BufferLaws
pub mod KnownRangeLaws
pub mod BoundLaws
pub mod OfferLaws
pub mod OneStateLaws
