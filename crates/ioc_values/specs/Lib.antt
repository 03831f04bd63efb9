pub mod Padding
pub mod Trim
pub mod Number
pub mod Conversion
pub mod Words
pub mod Shapes
