pub mod Windows
pub mod Outcomes
pub mod Table
