pub mod RuleLaws
pub mod MapTestLaws
pub mod MapReads
pub mod MapSound
pub mod MapProofs
