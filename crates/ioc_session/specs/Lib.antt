pub mod Arguments
pub mod Expecting
