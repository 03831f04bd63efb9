mod BaseOf
mod Beside
mod Copied
mod Counted
mod Counting
mod Ended
mod Folding
mod Following
mod GiveUpAmong
mod GiveUpEvents
mod GiveUpGiving
mod GivingUp
mod KeysOfSets
mod Leading
mod LedSets
mod Lending
mod LinkShares
mod Nothing
mod PartedSets
mod Parting
mod Placed
mod Places
mod Refusing
mod Sending
mod Serving
mod SetsTogether
mod Shares
mod Shortness
mod Taken
mod TakingOver
mod Telling
pub mod Dealing
pub mod Devices
pub mod Kept
pub mod Keys
pub mod Replaced
mod Fresh
mod SameSets
mod Watches
