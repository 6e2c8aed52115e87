pub mod ListingProofs
pub mod ListingTableLaws
