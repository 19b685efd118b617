pub mod Lists
pub mod Orderly
pub mod Shifts
pub mod Strict
