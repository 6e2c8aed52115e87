pub mod SideKinds
