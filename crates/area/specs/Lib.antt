pub mod LentAreas
