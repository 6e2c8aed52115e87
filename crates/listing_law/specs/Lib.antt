pub mod Listings
pub mod ListingTable
