pub mod StoreExports
