pub mod Keys
pub mod Gathered
pub mod Change
