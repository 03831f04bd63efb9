pub mod Counting
pub mod Printing
pub mod SiteFiles
pub mod SiteWords
