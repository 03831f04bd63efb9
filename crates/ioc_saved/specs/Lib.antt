pub mod Words
pub mod Escapes
pub mod Lines
pub mod Files
pub mod Blocks
pub mod BlockLaws
pub mod Requests
