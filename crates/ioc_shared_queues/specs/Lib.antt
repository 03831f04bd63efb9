pub mod Seen
pub mod SharedQueues
pub mod Order
pub mod Turns
pub mod Lanes
pub mod Requests
pub mod Ranks
