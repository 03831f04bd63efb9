mod Adding
mod Appending
mod Asking
mod Bases
mod Begun
mod Calls
mod Counting
mod CountsThen
mod DropsThen
pub mod Dropping
mod Doing
mod Endings
mod Ends
mod Excerpts
mod Few
mod Giving
mod Lasting
mod Learning
mod Linking
mod Lists
pub mod Moves
mod Moving
mod Pieces
mod Postings
mod Replaying
mod Rescanning
mod Rewiring
mod Sharing
mod Ticketing
mod TicketsThen
mod Uniting
mod Written
pub mod Basics
pub mod LiveFew
pub mod Numbers
pub mod Placing
pub mod Summing
