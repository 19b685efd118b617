pub mod Elements
pub mod Ranked
