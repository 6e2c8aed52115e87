pub mod EntryExports
