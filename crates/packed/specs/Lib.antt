pub mod Readable
pub mod Steps
pub mod LentPaths
pub mod LentOrders
