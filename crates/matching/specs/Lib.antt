pub mod Deals
pub mod Parts
pub mod Tapes
pub mod Walks
