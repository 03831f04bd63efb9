pub mod Content
pub mod Rules
pub mod Due
pub mod Lines
