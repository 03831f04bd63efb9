pub mod Counting
pub mod Laws
pub mod Numbers
pub mod Texts
