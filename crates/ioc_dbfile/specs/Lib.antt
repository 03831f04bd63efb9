pub mod Loader
pub mod Idle
pub mod Owners
pub mod OwnerTable
pub mod Finished
pub mod OwnDevices
pub mod FirstWorld
pub mod SeenDatabase
