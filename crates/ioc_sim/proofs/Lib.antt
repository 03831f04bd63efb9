pub mod Scripting
pub mod Eventing
pub mod Serving
pub mod Closing
pub mod Joining
