pub mod Heads
pub mod LentEntries
pub mod EntryOrders
