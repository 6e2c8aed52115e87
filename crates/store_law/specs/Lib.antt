pub mod AnyStore
pub mod Demand3Bytes
pub mod Offers
