pub mod Verbs
pub mod Escapes
