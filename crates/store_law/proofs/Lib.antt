pub mod LaidOutLaws
pub mod ProperLaws
pub mod Demand3BytesLaws
pub mod RefusalLaws
pub mod AnyStoreLaws
