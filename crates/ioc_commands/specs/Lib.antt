pub mod Verbs
pub mod Commands
pub mod Seen
pub mod Requests
pub mod Tags
pub mod Texts
