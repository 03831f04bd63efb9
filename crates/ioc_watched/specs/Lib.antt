pub mod Marking
pub mod Watched
pub mod WatchedCode
