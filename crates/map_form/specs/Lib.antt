pub mod Maps
pub mod MapTest
