pub mod SidesExports
