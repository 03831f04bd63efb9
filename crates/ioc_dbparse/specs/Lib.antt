pub mod Rules
pub mod Statements
pub mod Loading
pub mod Laws
pub mod Spelling
