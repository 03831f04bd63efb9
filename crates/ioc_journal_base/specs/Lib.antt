pub mod States
pub mod Items
pub mod Whole
