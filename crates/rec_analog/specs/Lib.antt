pub mod Deadband
pub mod Scale
pub mod Analog
pub mod SharedLaws
pub mod Input
pub mod InputLaws
pub mod Output
pub mod OutputLaws
