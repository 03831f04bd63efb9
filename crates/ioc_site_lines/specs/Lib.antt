pub mod Columns
pub mod Defining
pub mod Places
