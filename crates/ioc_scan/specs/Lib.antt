pub mod Changes
pub mod Lists
pub mod Members
pub mod Places
pub mod Positions
pub mod Scanned
pub mod Standing
pub mod Walked
