pub mod ConversionExports
