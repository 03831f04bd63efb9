pub mod CommandLine
pub mod Definitions
pub mod Endings
pub mod Files
pub mod Flags
