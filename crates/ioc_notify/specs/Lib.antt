pub mod Counts
pub mod Laws
pub mod Living
pub mod Waits
