pub mod ConversionLaws
pub mod Sides3dLaws
