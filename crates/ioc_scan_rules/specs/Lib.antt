pub mod Places
pub mod FirstLists
pub mod Asked
pub mod Ticks
