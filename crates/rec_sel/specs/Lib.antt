pub mod Choosing
pub mod Sel
pub mod SelLaws
