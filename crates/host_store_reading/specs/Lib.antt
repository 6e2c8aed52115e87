pub mod ReadingExports
