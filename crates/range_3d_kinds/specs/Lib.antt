pub mod Range3dKinds
