pub mod LentPathLaws
