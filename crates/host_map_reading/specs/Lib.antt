pub mod MapExports
