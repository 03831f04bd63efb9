mod Besides
pub mod RecordLists
mod Stepping
mod StartRules
mod Waitings
mod StartCode
mod StepLaws
mod LinkChanges
mod QuietEvents
mod KeptRecords
mod StartsLocal
mod LocalEvents
mod NoneReady
mod Putting
pub mod Counting
mod Holders
mod Carrying
mod HeldStarts
mod HeldSteps
pub mod Ended
mod ToldEvents
mod Apart
pub mod Calling
pub mod Beginning
pub mod Rewired
pub mod Sums
