pub mod WordLemmas
pub mod Spelling
pub mod Reprint
pub mod Ends
pub mod Parsed
pub mod Digits
