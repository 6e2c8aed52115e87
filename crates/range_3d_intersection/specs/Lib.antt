pub mod Sides3d
