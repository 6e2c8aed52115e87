pub mod EndValues
