pub mod Loop
pub mod Loads
pub mod Agreeing
pub mod Local
pub mod Fronts
pub mod Lexed
pub mod Spelled
pub mod Reading
pub mod Shrinking
pub mod Saying
pub mod OnLines
pub mod ByHand
mod Taking
