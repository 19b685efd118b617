pub mod AllPrices
pub mod CallsKeep
pub mod CapPrices
pub mod Chain
pub mod Collars
pub mod Defaults
pub mod Held
pub mod InRank
pub mod Leaves
pub mod LeftOver
pub mod Moves
pub mod OnePrice
pub mod Runs
pub mod Steps
mod Worked
