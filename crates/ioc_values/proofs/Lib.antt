mod Pushed
pub mod Numerals
pub mod Printed
pub mod Mapped
pub mod Wide
pub mod Spelled
