pub mod PathLaws
pub mod Numbered
mod All
mod Leading
pub mod Searching
pub mod Following
