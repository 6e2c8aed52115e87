pub mod FreshLaws
pub mod ArgumentLaws
pub mod TableLaws
pub mod StepLaws
pub mod TheoremProof
pub mod RefusalLaws
pub mod AskedKindLaws
