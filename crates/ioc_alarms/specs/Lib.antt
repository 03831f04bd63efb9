pub mod Alarms
pub mod Limits
pub mod Severities
pub mod Order
