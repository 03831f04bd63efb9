pub mod Advance
pub mod Begun
pub mod Counting
pub mod Expanding
pub mod LineEnds
pub mod LineLemmas
pub mod Parting
pub mod Parts
pub mod Pieces
mod Plain
pub mod PlainTokens
pub mod Replacing
pub mod Searching
mod Signs
pub mod Turns
