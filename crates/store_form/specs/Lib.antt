pub mod Apart
pub mod Stores
pub mod StoreTest
