pub mod Entering
pub mod Entries
pub mod Laws
pub mod NameTable
