pub mod StateLaws
pub mod CallLaws
pub mod HoldsLaws
pub mod AcceptanceLaws
pub mod RunLaws
pub mod TableLaws
