pub mod LengthLaws
pub mod AdmissionLaws
pub mod ExtendedLaws
