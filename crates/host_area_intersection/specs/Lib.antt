pub mod AreaExports
