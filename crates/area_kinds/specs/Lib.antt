pub mod AreaKinds
