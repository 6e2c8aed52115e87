pub mod BuilderExports
