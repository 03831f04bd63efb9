pub mod Mapped
pub mod OwnerLemmas
pub mod Closing
pub mod Idling
pub mod OwnLinks
