pub mod Asking
pub mod Devices
